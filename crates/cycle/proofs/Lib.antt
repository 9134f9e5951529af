-- Laws that belong to no one function.
pub mod Ruling
pub mod Operators
pub mod Returning
pub mod Agreeing
pub mod Rowing
pub mod Scoping
pub mod Descending
pub mod Looping
pub mod Failing
pub mod Ahead
pub mod Walker
