pub mod Places
pub mod Lists
pub mod Devices
pub mod Chosen
pub mod Increments
pub mod Kept
mod Halves
mod BigEndian
pub mod Lanes
pub mod Stored
pub mod Ranged
pub mod Touched
pub mod Examples
pub mod DraftExamples
pub mod Rising
pub mod AtSite
mod Shown
pub mod Parts
pub mod Elements
