-- Inside, what the search promises: sets of rows as numbers, and the record of what is known of each.
pub mod inside
