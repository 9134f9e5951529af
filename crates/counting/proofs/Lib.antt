pub mod Refusing
pub mod Sharing
pub mod Promises
pub mod Answers
pub mod Tracing
