-- What the contracts of this crate cite, in the order in which a reader learns it: the lines of a job, the job that they make,
-- what the code holds of them, the text of a job, and the text of an answer.
pub mod Lines
pub mod Job
pub mod Held
pub mod Written
pub mod Answer
pub mod Promises
pub mod Example
