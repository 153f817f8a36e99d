-- What an input asks for.
mod Parts
