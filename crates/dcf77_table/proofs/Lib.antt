pub mod Family
pub mod TableLaws
pub mod ValueLaws
pub mod PartLaws
pub mod Unique
pub mod TagLaws
pub mod SaidLaws
