pub mod Adding
pub mod Beside
pub mod Making
pub mod Numbering
pub mod Placing
pub mod Showing
pub mod Siting
pub mod Slipping
