pub mod Head
pub mod Tallies
pub mod Cut
pub mod Reads
pub mod private
