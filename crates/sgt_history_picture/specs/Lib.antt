pub mod Drawn
pub mod Graph
pub mod Label
pub mod Private
pub mod Short
pub mod Told
pub mod Words
