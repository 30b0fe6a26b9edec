pub mod Drawn
pub mod Gathering
pub mod Node
pub mod Parts
pub mod Picture
pub mod Private
pub mod Sheet
pub mod Wanted
