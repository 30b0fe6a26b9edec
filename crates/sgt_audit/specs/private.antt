-- Words that private clauses alone use.
pub mod Judging
pub mod Following
pub mod NextLine
pub mod Ending
pub mod Stops
pub mod SpelledSections
pub mod Known
pub mod Certified
