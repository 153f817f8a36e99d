-- How texts are put on a page, and numbers spelled.
pub mod Putting
