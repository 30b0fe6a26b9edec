pub mod Names
pub mod Kinds
pub mod Parts
pub mod Reads
pub mod Clashes
pub mod Written
pub mod private
