pub mod VettingLaws
pub mod WeighingLaws
