pub mod Puts
pub mod Ascii
pub mod PutsLaws
pub mod AsciiLaws
