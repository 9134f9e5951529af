-- What the calls with an index stand on.
pub mod Whole
pub mod Turning
