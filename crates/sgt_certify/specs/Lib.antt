pub mod Answer
pub mod Lines
pub mod Reach
pub mod Reasons
