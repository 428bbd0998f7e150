pub mod Layout
pub mod Zones
pub mod Meaning
pub mod Format
pub mod Writing
pub mod Objections
