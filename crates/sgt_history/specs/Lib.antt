pub mod Transaction
pub mod History
pub mod Cut
pub mod Serial
pub mod Conflicts
pub mod Flaws
