-- Words of private clauses.
pub mod Flags
