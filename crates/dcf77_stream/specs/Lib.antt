pub mod Said
pub mod Ending
pub mod Due
