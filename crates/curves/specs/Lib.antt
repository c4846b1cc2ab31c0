-- Curves of permitted jitter, the margin under them, and what is claimed of it.
pub mod Curves
pub mod Claims
-- what the code's functions promise each other
pub mod inside
