-- What is printed, on a page.
mod Starts
mod Cases
mod Whole
