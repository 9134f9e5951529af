-- The laws of the definitions in specs/, and the proofs of its promises.
pub mod Tables
pub mod Good
pub mod Numbers
pub mod Promises
pub mod Obeying
pub mod Numbering
