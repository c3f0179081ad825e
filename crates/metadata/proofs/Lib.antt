pub mod FindLaws
pub mod AnswerLaws
pub mod WholeLaws
pub mod TakenLaws
pub mod TellLaws
