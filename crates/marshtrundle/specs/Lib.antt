-- The numbers of an exported function in the array that its caller lends.
pub mod Exported
