pub mod Filling
pub mod FillingLaws
pub mod Cases
pub mod CasesLaws
