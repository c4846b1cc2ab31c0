-- Laws of the toy text, and cases of it and of a table.
pub mod ToyLines
pub mod ToyCases
pub mod TableCases
