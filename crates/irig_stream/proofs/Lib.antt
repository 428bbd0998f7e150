pub mod RingLaws
pub mod StreamLaws
pub mod FramesTold
pub mod Worked
pub mod OwedLaws
pub mod FormatTypes
pub mod StandIns
pub mod Unique
