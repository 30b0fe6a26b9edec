pub mod OneSite
pub mod Touched
pub mod private
