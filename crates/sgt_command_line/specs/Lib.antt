pub mod Check
pub mod Options
pub mod Words
pub mod Ways
pub mod private
