-- What the calls for programs in other languages leave in the buffer for the answer.
pub mod Answers
