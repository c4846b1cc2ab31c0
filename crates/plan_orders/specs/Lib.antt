-- Inside, what is put of an order's ranks.
pub mod inside
