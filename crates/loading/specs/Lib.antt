-- What the contracts of this crate cite: the table as a run holds it, with hints, and the record that a run begins with.
pub mod Loaded
