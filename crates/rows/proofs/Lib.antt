-- What a row in range says; the tasks of some rows; rows as numbers; lists in arrays.
pub mod Limits
pub mod Tasks
pub mod RowNumbers
pub mod Putting
pub mod Arrays
pub mod LentRows
