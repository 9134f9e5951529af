-- In the order in which a reader learns them.
pub mod Written
pub mod Promises
pub mod Lines
