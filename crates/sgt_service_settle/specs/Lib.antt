pub mod Told
pub mod Settled
pub mod Fault
pub mod private
