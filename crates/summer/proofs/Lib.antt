pub mod RuleLaws
pub mod ChangeLaws
pub mod Unique
