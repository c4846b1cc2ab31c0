-- Laws of numbers and lines.
pub mod Decimals
pub mod Lines
pub mod Spelling
pub mod Puts
pub mod Scans
pub mod Fronts
pub mod Behind
