pub mod Kept
pub mod Served
pub mod Least
pub mod Telling
pub mod Stepping
pub mod Excluding
pub mod Names
pub mod LeastAlong
