pub mod Layout
pub mod Digits
pub mod Put
pub mod Columns
