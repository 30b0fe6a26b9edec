pub mod Walks
pub mod Going
