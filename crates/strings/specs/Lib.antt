pub mod Checks
pub mod Format
pub mod Letters
