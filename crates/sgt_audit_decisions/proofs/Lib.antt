pub mod Found
pub mod Loops
pub mod Grouping
pub mod MetRanks
pub mod Outcomes
pub mod Stops
pub mod Tables
pub mod Walks
