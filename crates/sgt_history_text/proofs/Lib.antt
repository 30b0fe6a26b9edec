mod Cut
mod Tries
pub mod Lookups
pub mod Trees
pub mod Parts
mod Spelled
mod Kept
mod Named
mod Grown
mod Entries
pub mod Going
mod Ending
mod Fronts
mod Opened
mod Gathered
pub mod Solid
pub mod Telling
mod Objects
pub mod Keys
mod PlainTexts
mod Written
mod PlainLines
mod PlainPuts
mod Reopened
mod Appended
mod Seen
