-- What the calls on rows print.
pub mod Row
pub mod WriteRow
pub mod ReadRow
pub mod Reader
