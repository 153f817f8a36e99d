-- Lists.
pub mod Lists
pub mod Filled
