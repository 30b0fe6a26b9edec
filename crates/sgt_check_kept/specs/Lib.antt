pub mod Link
pub mod Text
pub mod Decision
pub mod Told
pub mod Answer
