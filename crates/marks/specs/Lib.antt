pub mod Marks
pub mod Told
pub mod Outcome
pub mod inner
