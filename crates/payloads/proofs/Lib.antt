pub mod ByteLaws
pub mod Unique
