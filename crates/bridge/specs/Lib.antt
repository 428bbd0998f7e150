pub mod Bridge
pub mod Bridge01
pub mod Objections
