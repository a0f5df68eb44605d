pub mod Laying
pub mod LayingLaws
pub mod WritesLaws
pub mod AnswersLaws
