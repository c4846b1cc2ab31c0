-- What the functions that read a table promise each other: nothing here is needed to believe what the public calls
-- promise.
pub mod inside
