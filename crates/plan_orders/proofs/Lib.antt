-- An order's ranks one after another, and what comes of its plan.
pub mod Turns
pub mod Given
