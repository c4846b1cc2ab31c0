-- A next text at the price of a page.
pub mod ToyLines
