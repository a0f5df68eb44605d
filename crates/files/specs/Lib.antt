pub mod Errno
pub mod Status
pub mod StatusLaws
pub mod Modes
pub mod Paths
pub mod PathsLaws
