-- The laws of the definitions in specs/, for whoever stands on this crate.
pub mod Rows
pub mod Tests
