-- What is promised, with what it rests on above the calls.
pub mod Main
pub mod Refused
pub mod OneList
pub mod WriteSides
pub mod Unique
pub mod Idle
pub mod Worked
pub mod WorkedCases
pub mod WorkedRows
