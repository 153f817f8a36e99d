-- What the public calls on one case promise.
pub mod Write
pub mod Read
