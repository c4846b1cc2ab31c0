-- How a record of sets finds the order chosen.
pub mod Sets
pub mod Scan
pub mod Record
pub mod LentRows
pub mod Chains
pub mod Gathering
pub mod Outside
pub mod Props
