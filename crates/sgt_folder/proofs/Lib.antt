pub mod Walks
pub mod Named
pub mod Kept
