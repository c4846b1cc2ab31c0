-- Laws of the jobs of a run, of what it finishes and of texts to watch, and the demands of every text.
pub mod Jobs
pub mod Merges
pub mod Finished
pub mod Unheld
pub mod RunTexts
pub mod Given
pub mod Texts
pub mod Kept
pub mod Demands
pub mod Cases
