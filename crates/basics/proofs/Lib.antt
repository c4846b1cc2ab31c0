-- Laws of tests, numbers, ranges and lists.
pub mod Tests
pub mod Numbers
pub mod Fronts
