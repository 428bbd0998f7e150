pub mod Run
pub mod Worked
