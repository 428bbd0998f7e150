pub mod DecimalLaws
pub mod Unique
