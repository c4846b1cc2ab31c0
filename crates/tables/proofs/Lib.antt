-- Laws of tables as text.
pub mod RowLines
pub mod Keys
pub mod Soundness
pub mod Heads
pub mod ReadBack
pub mod Readings
pub mod Refusals
