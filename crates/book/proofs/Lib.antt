pub mod PlaceLaws
pub mod BookLaws
pub mod BodyLaws
pub mod StopLaws
pub mod Worked
pub mod Unique
pub mod KindLaws
