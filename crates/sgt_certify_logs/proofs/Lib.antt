pub mod Decisions
pub mod Cycles
pub mod Stuck
pub mod Inserted
pub mod Round
