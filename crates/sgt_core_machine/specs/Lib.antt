pub mod Machine
pub mod Gathered
pub mod Cut
pub mod private
