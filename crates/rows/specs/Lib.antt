-- What the public calls on rows promise.
pub mod Row
pub mod WriteRow
pub mod ReadRow
pub mod Reader
pub mod Cut
