-- Words of private clauses.
pub mod Cells
pub mod Kept
pub mod Pending
pub mod Readings
pub mod Short
pub mod Tails
