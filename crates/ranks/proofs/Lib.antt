-- What the calls read, find and plan.
pub mod Readings
pub mod Orders
pub mod Found
pub mod Given
