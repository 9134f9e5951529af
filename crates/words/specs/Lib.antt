-- What the contracts of this crate cite: tests on numbers, and rows of eight words.
pub mod Tests
pub mod Words
