-- Laws of interference, fixed points and figures.
pub mod Sums
pub mod FixedPoints
pub mod BusyIntervals
pub mod Windows
pub mod Finishes
pub mod Margins
pub mod Blocking
pub mod Conditions
pub mod Deadlines
pub mod FirstJobs
pub mod Switches
pub mod Responses
pub mod Sequences
pub mod As03
