-- What is known of lists and of order.
pub mod Order
pub mod Runs
pub mod Fills
