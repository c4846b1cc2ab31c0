-- Orders of a table's rows by any test of a row, and the order chosen by stability.
pub mod Orders
pub mod Stability
