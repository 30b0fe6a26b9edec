pub mod Conflicts
pub mod Dealings
pub mod Found
