-- Words that private clauses alone use.
pub mod Noted
pub mod Deeds
pub mod Linked
pub mod Rows
