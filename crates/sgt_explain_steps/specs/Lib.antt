pub mod Told
pub mod Unmet
