pub mod Certifiable
pub mod Witness
pub mod Steps
pub mod Sound
