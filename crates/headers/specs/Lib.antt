pub mod Headers
pub mod HeadersLaws
pub mod Exactly
