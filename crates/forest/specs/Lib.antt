pub mod Record
pub mod Told
pub mod Outcome
pub mod inner
