pub mod Numbers
pub mod NumbersLaws
pub mod Hints
pub mod HintsLaws
pub mod InputLaws
