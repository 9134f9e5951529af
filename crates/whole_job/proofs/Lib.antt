-- The laws of the definitions in specs/.
pub mod Sizes
pub mod Answering
pub mod Left
pub mod Promises
