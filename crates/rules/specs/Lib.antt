-- In the order in which a reader learns them.
pub mod Rule
pub mod Meaning
pub mod Entries
pub mod Text
pub mod Held
pub mod Scan
pub mod Condition
pub mod Shape
pub mod Walk
pub mod Promises
