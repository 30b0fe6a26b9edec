pub mod Course
pub mod Chained
