-- The laws of the definitions in specs/, and the proofs of its promises.
pub mod Reaching
pub mod Flagging
pub mod Rebinding
pub mod Renumbering
pub mod Packing
pub mod Progress
pub mod Accepting
pub mod Whole
pub mod Promises
