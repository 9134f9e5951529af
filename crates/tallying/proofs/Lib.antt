mod Counting
mod Tallying
mod Onward
pub mod Ending
mod Accepted
