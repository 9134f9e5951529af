-- The index of wish 12, in the order in which to read it.
pub mod Key
pub mod Chains
pub mod Lent
pub mod Run
