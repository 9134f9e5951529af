-- What the contracts of this crate cite, and what it promises. `Answered` is the promise; `Passes` says how the code gets
-- there.
pub mod Answered
pub mod Promises
pub mod Passes
