pub mod Vetting
pub mod Weighing
