pub mod Ips
pub mod Claims
pub mod NumeralLaws
pub mod RunLaws
pub mod IpsLaws
pub mod Unique
pub mod Writes
