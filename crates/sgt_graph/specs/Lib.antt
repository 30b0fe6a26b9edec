pub mod Graph
pub mod Rows
pub mod Sorting
pub mod Walks
pub mod Ordered
pub mod First
pub mod Nearest
