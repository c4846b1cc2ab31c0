-- Inside, what the crane's functions promise each other; what is promised of its calls stands in `crane_demands`.
pub mod inside
