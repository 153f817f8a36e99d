-- What the calls on one case have printed.
mod Answered
mod Writing
