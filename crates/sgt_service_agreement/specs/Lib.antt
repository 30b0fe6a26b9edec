pub mod Fault
pub mod Agreed
pub mod private
