-- In the order in which they stand on each other.
pub mod Sizes
pub mod Plans
pub mod Matching
pub mod Codes
pub mod Scopes
pub mod Behaviour
pub mod Added
pub mod Words
pub mod Reading
pub mod Texts
pub mod Bad
pub mod Scanning
pub mod Told
pub mod Terms
pub mod Conditions
pub mod Shaping
