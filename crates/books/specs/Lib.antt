pub mod Names
pub mod Formulas
pub mod Needs
pub mod Units
pub mod Books
pub mod Drafts
