-- A crane's text: its pieces, what its call and its program answer, what is promised of them, and cases.
pub mod Pieces
pub mod Calls
pub mod Demands
pub mod Cases
