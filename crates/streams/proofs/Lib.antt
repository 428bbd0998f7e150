pub mod Window
pub mod Runs
pub mod RingLaws
pub mod Meets
pub mod Readers
pub mod Contracts
pub mod Unique
