-- What the proofs of the whole check and of one case cite.
pub mod Walking
pub mod Copying
pub mod Fitted
pub mod Fitting
pub mod Standing
pub mod Opens
