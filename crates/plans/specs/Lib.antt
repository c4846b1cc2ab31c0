-- Text out: an order's figures, a plan, a refusal, what a call comes to; inside, what is printed of an answer.
pub mod Entries
pub mod Plans
pub mod Outcomes
pub mod inside
