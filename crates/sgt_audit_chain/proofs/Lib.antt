pub mod GoingOn
pub mod Excluded
pub mod Growing
pub mod Row
