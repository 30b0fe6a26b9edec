pub mod Beside
pub mod Clashing
pub mod Numbered
pub mod Places
pub mod Sited
pub mod Slips
pub mod Told
pub mod Values
