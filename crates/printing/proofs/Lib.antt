-- Worked prints.
mod Worked
