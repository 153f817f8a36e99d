-- What the reader's program promises.
pub mod Asked
