-- The responses that the code finds are those of the rows; rows at positions, and the largest of their holds.
pub mod Found
pub mod Holds
