pub mod Beside
pub mod Clashing
pub mod Listing
pub mod Reading
pub mod Showing
pub mod Telling
