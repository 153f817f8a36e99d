-- What the contracts of fields, of buffers and of the calls' texts cite.
pub mod Same
pub mod Fields
pub mod Buffer
pub mod Texts
