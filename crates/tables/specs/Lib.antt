-- A table and rank lines as text: what is read, and what is refused on which line.
pub mod TableLines
pub mod Claims
pub mod inside
