pub mod Showing
pub mod ParameterLaws
pub mod PartLaws
pub mod SheetLaws
