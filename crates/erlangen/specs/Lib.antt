pub mod Layout
pub mod Offset
pub mod Meaning
pub mod Format
pub mod Writing
pub mod Objections
