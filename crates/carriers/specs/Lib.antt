pub mod Carriers
pub mod Told
