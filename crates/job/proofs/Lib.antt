-- The laws of the definitions in specs/.
pub mod Shapes
pub mod Entries
pub mod Named
pub mod Readings
pub mod Going
pub mod Answers
pub mod Grammar
pub mod Promises
pub mod ReadBack
