-- What is counted.
pub mod Counts
pub mod Tally
pub mod Added
