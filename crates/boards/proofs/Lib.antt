-- The board theorem: a run of an order in which no task is late keeps each rank's responses. And every run is the one
-- schedule by the rules.
pub mod Sums
pub mod Releases
pub mod Service
pub mod Queues
pub mod Backlog
pub mod Stretches
pub mod Traces
pub mod Ranks
pub mod Windows
pub mod Responses
pub mod Bounds
pub mod Turns
pub mod Schedules
pub mod Document01
pub mod Runs
pub mod Witnesses
