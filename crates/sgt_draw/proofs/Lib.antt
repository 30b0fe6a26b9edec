mod Begun
mod Gathered
mod Kept
mod Neighbours
mod Pictured
mod Ranked
mod Sorting
mod Walks
