pub mod Checking
pub mod Examples
pub mod Numbers
pub mod Told
pub mod Topics
pub mod Helping
