pub mod Writers
pub mod Values
pub mod Evidence
