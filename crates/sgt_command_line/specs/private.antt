-- Words of private clauses.
pub mod Found
pub mod Runs
