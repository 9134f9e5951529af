-- In the order in which they stand on each other.
pub mod Lines
pub mod Binding
pub mod Early
pub mod Judging
pub mod Passing
pub mod Ranging
pub mod Calling
pub mod Checking
pub mod Answering
pub mod Accepting
