-- A board to watch: its text, the lengths of its jobs, what it finishes, what its call and its program answer, what is
-- promised of them, and cases; inside, what functions promise each other.
pub mod Jobs
pub mod Runs
pub mod WatchLines
pub mod Calls
pub mod Demands
pub mod Cases
pub mod inside
