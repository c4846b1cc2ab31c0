-- Laws of points by their numbers, of curves that keep their limits, of the jitter that a curve permits, of a quotient
-- rounded down, and of the margin.
pub mod PointNumbers
pub mod Lines
pub mod Permits
pub mod Orderly
pub mod Formed
pub mod Places
pub mod Floors
pub mod Margins
pub mod Cases
pub mod Growing
