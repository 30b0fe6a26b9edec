pub mod InTime
pub mod InSessions
pub mod Forward
