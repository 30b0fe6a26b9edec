pub mod Apart
pub mod Circles
pub mod Ends
pub mod Onward
pub mod private
