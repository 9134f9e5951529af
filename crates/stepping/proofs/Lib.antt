-- Laws that belong to no one function, and what the two calls promise together.
pub mod Loading
pub mod Saving
pub mod Rooted
pub mod Concluding
pub mod Starting
pub mod Promises
