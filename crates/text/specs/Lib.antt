-- What the contracts of this crate cite, in the order in which a reader learns it: the parts of a text and its numbers, its
-- lines, what is written, and what is promised of them.
pub mod Text
pub mod Lines
pub mod Held
pub mod Written
pub mod Promises
