-- What the contract of `collect` cites, and what it promises, in the order in which to read it.
pub mod Reachable
pub mod Packed
pub mod Refused
pub mod Collected
pub mod Promises
pub mod Passes
