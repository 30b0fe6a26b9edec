pub mod Reading
pub mod Left
pub mod OneMore
pub mod Whole
pub mod Taken
pub mod Given
pub mod Heads
pub mod OpenSection
pub mod Answered
pub mod Comes
mod Losing
