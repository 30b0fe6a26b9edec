-- Words of private clauses.
pub mod State
pub mod Found
