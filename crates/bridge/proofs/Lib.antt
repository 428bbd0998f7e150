pub mod PendingLaws
pub mod CarriedLaws
pub mod BridgeLaws
pub mod CoastingLaws
pub mod QuarterLaws
pub mod Unique
pub mod OwedLaws
