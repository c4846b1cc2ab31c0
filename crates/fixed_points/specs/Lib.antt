-- Inside, lent loads and the values of a search: what the code's functions promise each other.
pub mod inside
