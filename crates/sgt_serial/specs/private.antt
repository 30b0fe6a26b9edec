-- Words of private clauses.
pub mod Grouped
pub mod Groups
pub mod Operations
pub mod Order
pub mod Reads
pub mod Values
pub mod Written
