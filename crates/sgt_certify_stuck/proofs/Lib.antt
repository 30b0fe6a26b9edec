pub mod Circles
pub mod Clear
pub mod Elements
pub mod Orders
pub mod StuckSets
