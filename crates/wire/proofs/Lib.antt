pub mod FirstBad
pub mod EntryLaws
pub mod ColumnLaws
pub mod LayoutLaws
pub mod DigitLaws
pub mod StoreLaws
pub mod Unique
