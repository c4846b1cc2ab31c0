-- Laws of the interference of tasks as loads, and of the search of W.
pub mod Loads
pub mod Steady
pub mod Values
