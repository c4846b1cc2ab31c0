-- Inside, the loads above a task: what its functions promise each other.
pub mod inside
