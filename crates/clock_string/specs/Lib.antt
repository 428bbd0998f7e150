pub mod Reader
pub mod Position
pub mod Objections
