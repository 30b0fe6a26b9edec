-- Words of private clauses.
pub mod Ends
