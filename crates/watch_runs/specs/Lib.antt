-- Inside, what the functions of a run promise each other and their callers; a run's text stands in `watch_demands`.
pub mod inside
