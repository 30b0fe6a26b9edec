pub mod Kept
pub mod Checks
pub mod Serializable
pub mod Steps
