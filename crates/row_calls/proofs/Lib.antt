-- What the calls on rows have printed.
mod Rows
mod Asking
