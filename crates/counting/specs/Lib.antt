-- What the runs with counts refuse and return.
pub mod Counted
pub mod Promises
