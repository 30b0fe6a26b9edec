pub mod Chain
pub mod Serial
pub mod Break
pub mod Sums
pub mod Audited
