-- When a task can be shown.
pub mod Loads
