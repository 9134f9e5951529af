-- In the order in which they stand on each other.
pub mod Written
pub mod Linking
pub mod Links
pub mod Putting
pub mod Placing
pub mod Preorder
pub mod Heading
pub mod Masking
pub mod Adding
pub mod Lining
pub mod Sound
pub mod Extending
pub mod Refusing
pub mod Promises
