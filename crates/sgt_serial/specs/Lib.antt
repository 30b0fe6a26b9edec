pub mod Answer
pub mod Difference
pub mod Report
pub mod Text
pub mod private
