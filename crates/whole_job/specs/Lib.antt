-- What the contract of the job function cites, and what it promises: `answer_to` is the text that a text is answered with,
-- `Promises` says what follows from it, and `Example` is document 01's job with its answer.
pub mod Whole
pub mod Promises
pub mod Example
