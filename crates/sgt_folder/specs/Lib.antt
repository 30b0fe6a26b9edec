pub mod Call
pub mod Asked
pub mod Name
pub mod Keeping
