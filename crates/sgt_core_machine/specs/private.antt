-- Words of private clauses.
pub mod Decided
pub mod Whole
pub mod Withdrawing
pub mod Installing
pub mod Looked
pub mod Records
