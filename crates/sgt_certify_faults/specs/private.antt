-- Words that private clauses alone use.
pub mod Asked
pub mod Judging
pub mod Reading
