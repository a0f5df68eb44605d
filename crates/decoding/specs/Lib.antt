pub mod Decoding
pub mod Bounds
pub mod DecodingLaws
pub mod Values
pub mod Exactly
