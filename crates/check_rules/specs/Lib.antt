-- In the order in which a reader learns them.
pub mod Bound
pub mod Far
pub mod Line
pub mod Check
pub mod Answer
pub mod Promises
