-- Words of the graph's own model and of clauses of private functions.
pub mod Parts
pub mod Rows
pub mod Search
pub mod Growth
pub mod Admission
