-- Of each rule of a text it is known whether it is kept.
pub mod Certificates
pub mod Entries
pub mod Sections
pub mod Lines
pub mod Pieces
