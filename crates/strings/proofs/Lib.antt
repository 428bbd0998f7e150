pub mod CheckLaws
pub mod Unique
pub mod OwedLaws
