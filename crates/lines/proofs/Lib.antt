pub mod DecimalLaws
pub mod DecimalValue
pub mod WriteLaws
pub mod LineLaws
pub mod Unique
