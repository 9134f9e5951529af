-- What the list of frames means, and what the machine's functions promise.
pub mod Stack
pub mod Machine
