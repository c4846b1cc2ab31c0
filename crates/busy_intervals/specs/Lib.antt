-- Inside, the jobs of a busy interval by numbers: what the code's functions promise each other.
pub mod inside
