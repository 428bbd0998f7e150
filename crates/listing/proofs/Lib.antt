pub mod PutLaws
pub mod StampLaws
pub mod LineLaws
pub mod RoomLaws
pub mod Worked
pub mod Unique
