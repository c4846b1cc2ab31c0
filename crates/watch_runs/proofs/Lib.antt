-- Laws of owners and slots, of a tick and of a run.
pub mod Lists
pub mod Merging
pub mod Slots
pub mod Ticks
pub mod Runs
