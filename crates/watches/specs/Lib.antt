-- Nothing to be believed: inside, what functions promise each other.
pub mod inside
