pub mod Prefix
