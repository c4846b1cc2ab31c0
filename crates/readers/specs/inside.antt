-- What functions promise each other.
pub mod Numbers
pub mod Stands
pub mod Readings
