-- What functions promise each other.
pub mod Lines
pub mod Fronts
pub mod Rankings
pub mod Stages
