pub mod Test
pub mod TestLaws
pub mod WorkLaws
pub mod OnlyLaws
pub mod TurnedLaws
pub mod AnswerLaws
pub mod Examples
