-- What every crate says of choices, ranges and lists of numbers.
pub mod Basics
