pub mod Answer
pub mod Page
pub mod Rule
pub mod Verdict
