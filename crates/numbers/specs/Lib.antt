pub mod Refusal
pub mod Fault
pub mod Limit
