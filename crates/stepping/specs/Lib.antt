-- What the start and the step call return, and what is promised of them.
pub mod Stepping
pub mod Ended
pub mod Promises
