-- What the proofs of more than one function cite, and worked prints.
mod Lines
mod Named
mod Tables
mod Input
mod Worked
