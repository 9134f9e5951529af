-- What the proofs of the exported functions share.
pub mod Numbers
