pub mod Answers
pub mod Yielding
pub mod PartsLaws
pub mod Wrong
pub mod Sizes
