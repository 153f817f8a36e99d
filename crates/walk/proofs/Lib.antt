-- The theorems of the walks over rules, and what a plan shows of a visit.
pub mod Back
pub mod Only
pub mod Ends
pub mod Descent
pub mod Rooms
pub mod Visit
pub mod Nodes
pub mod Choosing
pub mod Plans
pub mod Opened
