pub mod Hexes
pub mod HexesLaws
pub mod Spelled
pub mod Exactly
pub mod Decoding
pub mod DecodingLaws
pub mod Turns
