pub mod Order
pub mod Run
pub mod Kept
pub mod Text
pub mod Answer
pub mod Told
