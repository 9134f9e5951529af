-- The laws of the index.
pub mod Keying
pub mod Chaining
pub mod Lending
pub mod Twinning
pub mod Running
pub mod Rooming
