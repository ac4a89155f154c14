pub mod ChartLaws
pub mod EndsLaws
pub mod RuleLaws
pub mod CountLaws
pub mod PartLaws
pub mod RowLaws
pub mod OutcomeLaws
pub mod Unique
