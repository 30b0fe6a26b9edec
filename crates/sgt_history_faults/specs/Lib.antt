pub mod Mine
pub mod Touch
pub mod Noted
pub mod Collected
pub mod Order
pub mod Group
pub mod Given
pub mod Judged
