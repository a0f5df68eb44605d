pub mod Place
pub mod Judge
pub mod Passed
pub mod JudgeLaws
pub mod Outcomes
pub mod Numbered
pub mod Allowed
