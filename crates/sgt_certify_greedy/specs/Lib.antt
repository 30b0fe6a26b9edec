pub mod Pairs
pub mod Sorted
pub mod Walks
pub mod Decided
pub mod Answer
