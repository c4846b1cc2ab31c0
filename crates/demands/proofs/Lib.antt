-- The demands of every text, and the starred cases.
pub mod Outcomes
pub mod Texts
pub mod Promises
pub mod Planner
pub mod Reviewer
pub mod Cases
pub mod Loads
pub mod Witnesses
