-- The laws of the definitions in specs/.
pub mod Copying
pub mod Fetching
pub mod Hinting
