-- Words of private clauses.
pub mod Gathered
