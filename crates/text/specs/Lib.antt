-- Text as bytes: numbers and lines, written and read; inside, a text put at an offset.
pub mod Text
pub mod Line
pub mod Lines
pub mod Buffers
pub mod Claims
pub mod inside
