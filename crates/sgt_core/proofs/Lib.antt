pub mod OneInput
pub mod PlayedLines
pub mod Running
pub mod SearchedEvents
pub mod Unreadable
