pub mod AnswersLaws
pub mod BlockLaws
pub mod Exactly
pub mod WrongLaws
