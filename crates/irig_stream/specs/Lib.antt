pub mod Said
pub mod Due
