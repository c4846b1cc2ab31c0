-- Response times of a task between the tasks above and below it, its margin, and what is claimed of them.
pub mod Extremes
pub mod Interference
pub mod BusyIntervals
pub mod Figures
pub mod Claims
