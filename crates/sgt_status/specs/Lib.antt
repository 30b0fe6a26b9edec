pub mod Status
pub mod Places
pub mod Same
pub mod Shown
