pub mod Computed
pub mod Steps
pub mod Verdicts
pub mod Calls
pub mod Same
