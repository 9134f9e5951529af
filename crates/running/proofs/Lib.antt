-- The laws of a run that was not refused.
pub mod Whole
