pub mod Cycles
pub mod Graphs
pub mod Growing
pub mod Quiet
pub mod Steps
pub mod Words
