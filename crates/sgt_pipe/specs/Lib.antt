pub mod Acts
pub mod Fronts
pub mod Ends
