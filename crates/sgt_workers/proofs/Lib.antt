pub mod Ends
pub mod Lists
pub mod Moves
pub mod Numbered
pub mod Runs
pub mod Told
pub mod Weights
