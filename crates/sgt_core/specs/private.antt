pub mod Playing
pub mod Running
pub mod Stopping
pub mod Taking
