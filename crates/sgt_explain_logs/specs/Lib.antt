pub mod Either
pub mod Explained
pub mod Taken
