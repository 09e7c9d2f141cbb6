pub mod Ranges
pub mod Verdicts
