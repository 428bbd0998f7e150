pub mod TableLaws
pub mod PaperLaws
pub mod Unique
pub mod WorkedFrame
pub mod TagLaws
pub mod SaidLaws
