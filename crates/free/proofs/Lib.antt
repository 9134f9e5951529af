-- The laws of the definitions in specs/, and the proofs of its promises.
pub mod Entries
pub mod Masks
pub mod Smallest
pub mod Promises
