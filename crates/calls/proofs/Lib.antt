-- The laws of the definitions in specs/, and the proofs of its promises.
pub mod Words
pub mod Starts
pub mod Distinct
pub mod Accepting
pub mod Promises
pub mod Signed
pub mod Turns
pub mod Subjects
pub mod Small
pub mod Uses
pub mod IndexedTurns
pub mod Sharing
