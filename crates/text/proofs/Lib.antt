-- The laws of the definitions in specs/.
pub mod Parts
pub mod Separators
pub mod Fields
pub mod Put
pub mod Decimal
pub mod Lines
