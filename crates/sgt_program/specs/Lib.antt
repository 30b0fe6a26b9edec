pub mod Chains
pub mod Ending
pub mod Commands
