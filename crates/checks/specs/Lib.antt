-- What the contracts of this crate cite, and what it promises, in the order in which to read it.
pub mod Kinds
pub mod Good
pub mod Plain
pub mod Checked
pub mod Numbers
pub mod Signature
pub mod Promises
