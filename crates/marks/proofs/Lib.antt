pub mod ReachLaws
pub mod MarkLaws
pub mod Unique
pub mod OutcomeLaws
