pub mod Zones
pub mod Forms
pub mod Reader
pub mod Writer
pub mod Objections
