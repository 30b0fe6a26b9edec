pub mod Scan
pub mod Names
pub mod Told
pub mod Forms
pub mod Object
pub mod Tally
