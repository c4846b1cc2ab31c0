-- Inside, what the figures' functions promise: when a row among numbers is in the limits of a table.
pub mod inside
