pub mod Verdict
pub mod Decided
pub mod Steps
pub mod Named
pub mod Between
