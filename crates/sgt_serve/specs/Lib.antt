pub mod Place
pub mod Talk
pub mod Ended
pub mod Devices
pub mod private
