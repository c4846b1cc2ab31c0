-- Laws of a crane's pieces and output, and the demands of every text.
pub mod Pieces
pub mod Lines
pub mod Answers
pub mod Tables
pub mod Outputs
pub mod Demands
pub mod Cases
