pub mod Core
pub mod Step
pub mod Runs
