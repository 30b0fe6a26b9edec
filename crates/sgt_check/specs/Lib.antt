pub mod Text
pub mod Rank
pub mod Key
pub mod Answer
pub mod Told
