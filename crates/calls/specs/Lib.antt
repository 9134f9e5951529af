-- What the calls that run refuse and return, for every input, and what is promised of it in the reader's words: `run_with` is the contract
-- of `run`, and `run_of` is that where no signature is lent; `many_of` is that of `run_many`, `indexed_of` and `indexed_many_of` are those of the
-- calls with an index.
pub mod Outcome
pub mod Distinct
pub mod Refused
pub mod Run
pub mod Many
pub mod Indexed
pub mod Promises
pub mod Signed
pub mod Subjects
pub mod Sharing
pub mod Uses
