-- Numbers, lines of numbers and what is printed, as texts of ASCII bytes; and the page that texts wait on.
pub mod Ascii
pub mod Numeral
pub mod Decimal
pub mod Line
pub mod Page
pub mod Said
