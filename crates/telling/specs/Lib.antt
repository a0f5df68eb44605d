pub mod Discarded
pub mod DiscardedLaws
