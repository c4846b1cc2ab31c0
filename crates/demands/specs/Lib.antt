-- What the calls and the programs answer, what is promised of it, and document 01's starred cases.
pub mod Calls
pub mod Demands
pub mod Cases
pub mod Witnesses
