-- Laws of the code's way through a table's text.
pub mod Tests
pub mod LineNumbers
pub mod Stands
pub mod Steps
pub mod Turns
pub mod Tables
