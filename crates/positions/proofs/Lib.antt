-- The laws of sets of positions: the first line of each module says what it proves.
pub mod Digits
pub mod Members
pub mod Shifts
pub mod Counts
pub mod Extremes
pub mod Taking
pub mod Listed
pub mod Cuts
pub mod Unions
pub mod Unique
