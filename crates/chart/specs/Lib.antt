pub mod Checks
pub mod Told
pub mod ChartOutcome
pub mod EndsOutcome
pub mod inner
