-- Laws that belong to no one function.
pub mod Kind
pub mod Keeping
pub mod Children
pub mod Walking
pub mod Limited
pub mod Patterns
pub mod Building
pub mod Comparing
pub mod Matching
