pub mod Talks
pub mod Turns
pub mod Ends
pub mod Openings
pub mod Ways
pub mod Served
pub mod Stops
pub mod Chains
