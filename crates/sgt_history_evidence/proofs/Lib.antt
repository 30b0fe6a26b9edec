pub mod Scanning
pub mod Cutting
pub mod Least
pub mod Writing
pub mod Giving
pub mod Renamed
pub mod RenamedFlaws
pub mod RenamedEvidence
