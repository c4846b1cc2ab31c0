-- What functions promise each other: nothing here is needed to believe what the public calls promise.
pub mod Arrays
pub mod Lent
pub mod LentOrders
pub mod Numbers
pub mod Records
