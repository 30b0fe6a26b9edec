pub mod Fronts
pub mod SectionFaults
pub mod OneSection
