pub mod Row
pub mod Outline
pub mod Tags
pub mod Laying
