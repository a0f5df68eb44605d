pub mod AnswersLaws
pub mod DelimitingLaws
pub mod JoinedLaws
pub mod PrefixLaws
pub mod PrefixOctets
