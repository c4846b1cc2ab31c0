-- Laws of entries, of a plan's text and of a call's outcome.
pub mod Entries
pub mod Lengths
pub mod Outcomes
pub mod Ranks
