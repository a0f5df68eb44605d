pub mod Key
pub mod Params
pub mod Entries
pub mod TilingLaws
pub mod Accepted
pub mod FieldLaws
pub mod Param
pub mod Merge
