pub mod Taken
pub mod Made
pub mod Decided
pub mod NextEnds
pub mod Firsts
pub mod Judged
pub mod Numbered
pub mod Reached
