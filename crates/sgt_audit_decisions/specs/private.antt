-- Words that private clauses alone use.
pub mod Table
pub mod Grouped
pub mod Outcome
