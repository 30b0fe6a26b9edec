pub mod Input
pub mod Replay
pub mod Reply
pub mod private
