pub mod AreaLaws
pub mod Cutting
pub mod EmitLaws
pub mod GatherLaws
