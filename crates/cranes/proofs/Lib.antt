-- Laws of where pieces end, and of their answers put one after another.
pub mod Ends
pub mod Answers
