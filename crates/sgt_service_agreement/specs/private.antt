-- Words of private clauses.
pub mod Counting
