pub mod Body
pub mod Book
pub mod Walking
pub mod Stamps
