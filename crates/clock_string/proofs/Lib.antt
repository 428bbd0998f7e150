pub mod ReadLaws
pub mod PositionLaws
pub mod RoundTrip
pub mod OwedLaws
pub mod StandIns
pub mod Unique
