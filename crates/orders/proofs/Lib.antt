-- The order chosen: why it is possible, passes and is first by the rule, for every test by sets; stability is one.
pub mod Possible
pub mod Choosing
pub mod Rule
pub mod Stability
pub mod Tasks
