pub mod Table
pub mod Values
pub mod Tags
