pub mod Stream
pub mod StandIns
pub mod Reader
