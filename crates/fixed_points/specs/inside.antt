-- What functions promise each other: nothing here is needed to believe what the public calls promise.
pub mod Loads
pub mod Steady
pub mod Values
