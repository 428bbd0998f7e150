pub mod MonthLaws
pub mod YearLaws
pub mod DateLaws
pub mod WeekdayLaws
pub mod DayOfYearLaws
pub mod Unique
