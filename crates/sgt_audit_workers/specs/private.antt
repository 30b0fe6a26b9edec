-- Words that private clauses alone use.
pub mod Texts
pub mod Judging
pub mod Begun
pub mod Jobs
pub mod Running
pub mod Tallied
pub mod Working
