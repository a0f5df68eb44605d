pub mod Exactly
pub mod FaultLaws
pub mod JoinedLaws
pub mod NameLaws
