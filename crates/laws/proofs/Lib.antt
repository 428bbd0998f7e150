pub mod Bools
pub mod Coincide
pub mod Signed
pub mod Tested
