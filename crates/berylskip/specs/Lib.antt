pub mod Exported
pub mod Questions
