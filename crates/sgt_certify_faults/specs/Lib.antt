pub mod Faults
pub mod private
