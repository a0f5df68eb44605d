pub mod AcceptedLaws
pub mod AnswersLaws
pub mod DefinedLaws
pub mod RoomLaws
pub mod WrongLaws
