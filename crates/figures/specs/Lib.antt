pub mod Workings
pub mod Known
pub mod Texts
