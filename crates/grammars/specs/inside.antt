-- What functions promise each other.
pub mod Answers
pub mod Readers
