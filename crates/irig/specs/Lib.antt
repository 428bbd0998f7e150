pub mod Offset
pub mod Meaning
pub mod Faults
pub mod Steps
pub mod Writing
pub mod Objections
