-- What a turn and a frame mean.
pub mod Ways
pub mod Turns
