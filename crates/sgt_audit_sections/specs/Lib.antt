pub mod Sections
pub mod Judged
pub mod private
