pub mod Layouts
pub mod Writable
pub mod LayoutsLaws
pub mod Writes
