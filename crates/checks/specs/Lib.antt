pub mod Line
pub mod Question
pub mod Memory
pub mod inner
