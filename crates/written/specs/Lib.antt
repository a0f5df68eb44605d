pub mod Writing
pub mod Accepted
pub mod Answers
pub mod Octets
pub mod Defined
pub mod Wrong
