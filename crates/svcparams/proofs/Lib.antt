pub mod AcceptedLaws
pub mod Exactly
pub mod MergeExactly
pub mod MergeLaws
pub mod MergeTurns
pub mod ValueLaws
pub mod VerdictLaws
pub mod WalkLaws
