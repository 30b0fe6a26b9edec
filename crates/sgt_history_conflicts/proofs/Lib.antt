pub mod Adding
pub mod Conflicting
pub mod Parting
