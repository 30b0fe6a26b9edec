-- Words of private clauses.
pub mod Taking
