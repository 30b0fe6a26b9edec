pub mod Status
pub mod Talk
