-- A board tick by tick, and what is claimed of every run of it.
pub mod Boards
pub mod Claims
pub mod Document01
pub mod Runs
pub mod Witnesses
