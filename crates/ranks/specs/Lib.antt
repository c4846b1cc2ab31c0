-- Inside, what the calls promise each other; what is promised of them stands in `demands`.
pub mod inside
