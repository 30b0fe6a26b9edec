pub mod Taken
pub mod NextLine
pub mod Bounds
pub mod Covering
pub mod Sorted
pub mod Grouped
pub mod Grouping
pub mod Whole
pub mod GivenNext
pub mod GivenWhole
pub mod Decided
pub mod Ready
mod Shuffled
