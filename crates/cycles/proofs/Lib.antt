-- What the proofs of more than one function cite, and what the check's verdict means.
pub mod Steps
pub mod Table
pub mod Safe
