pub mod CallsLaws
pub mod CutsLaws
