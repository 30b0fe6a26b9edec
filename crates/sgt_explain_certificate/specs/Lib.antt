pub mod Columns
pub mod Ranks
pub mod Told
