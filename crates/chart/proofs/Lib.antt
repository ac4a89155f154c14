pub mod CheckLaws
pub mod CountLaws
pub mod OutcomeLaws
pub mod Unique
pub mod AnswerLaws
pub mod JobLaws
pub mod WrongPrograms
