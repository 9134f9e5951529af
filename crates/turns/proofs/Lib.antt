pub mod Rows
pub mod Ways
pub mod Resumed
pub mod Begun
