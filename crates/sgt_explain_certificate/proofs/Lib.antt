pub mod Giving
pub mod Refusing
