-- Laws of the watcher's way through a text.
pub mod Numbers
pub mod Fronts
pub mod Laid
pub mod Stages
