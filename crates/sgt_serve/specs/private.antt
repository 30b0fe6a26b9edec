pub mod Turning
pub mod Devices
pub mod Opening
pub mod Talking
pub mod Closing
pub mod Serving
