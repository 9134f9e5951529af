-- In the order in which a reader learns them.
pub mod Added
pub mod Promises
pub mod Bare
pub mod Links
pub mod Example
