pub mod Tree
pub mod Way
