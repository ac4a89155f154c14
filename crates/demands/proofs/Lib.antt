-- The theorems of the three demands, and the laws behind them.
pub mod Right
pub mod AllRight
pub mod Refusals
pub mod Ending
pub mod Late
pub mod Filling
pub mod Exists
pub mod Outcomes
pub mod Reported
pub mod Least
pub mod Printed
pub mod Demands
