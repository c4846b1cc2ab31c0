-- What proofs of other crates cite too: nothing here is needed to believe what the public calls promise.
pub mod Partial
