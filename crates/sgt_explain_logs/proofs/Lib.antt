pub mod Cuts
pub mod Explanations
pub mod Findings
pub mod Firsts
pub mod Heads
pub mod Opens
pub mod Readings
pub mod Wrote
