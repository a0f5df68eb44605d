pub mod Words
pub mod Encoded
pub mod EncodedLaws
pub mod Strings
