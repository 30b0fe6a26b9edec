pub mod Gathered
pub mod Linking
pub mod KeptFrom
pub mod Sessions
pub mod Committed
pub mod Telling
pub mod Named
pub mod Exact
