pub mod Cuts
pub mod ListLaws
pub mod Readings
