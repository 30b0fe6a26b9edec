pub mod Sites
pub mod Stopping
pub mod Taking
pub mod Unreadable
