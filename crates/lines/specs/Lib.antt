pub mod Words
pub mod Tokens
pub mod Grammar
pub mod Expected
pub mod Reading
pub mod Faults
