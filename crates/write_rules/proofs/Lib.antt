-- In the order in which they stand on each other.
pub mod Writing
pub mod Walking
pub mod Listing
pub mod Finding
pub mod Copying
pub mod Answering
pub mod Promises
