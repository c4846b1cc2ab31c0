-- Laws of the jobs of a busy interval, one after another.
pub mod Jobs
pub mod Stretches
