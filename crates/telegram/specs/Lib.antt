pub mod Telegram
pub mod Faults
pub mod Objections
