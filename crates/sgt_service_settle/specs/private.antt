-- Words of private clauses.
pub mod Words
pub mod Search
pub mod Index
pub mod Acts
pub mod Tickets
pub mod Sites
pub mod Deeds
pub mod Course
pub mod Joined
pub mod Places
