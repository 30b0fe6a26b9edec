pub mod Cells
pub mod Records
pub mod Tracks
pub mod private
