pub mod Question
pub mod TurnedDown
pub mod Textbook
pub mod Prints
pub mod Demands
