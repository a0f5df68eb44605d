pub mod AllowedLaws
pub mod PlaceLaws
