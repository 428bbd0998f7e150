pub mod SentLaws
pub mod TelegramLaws
pub mod OwedLaws
pub mod StandIns
pub mod Unique
