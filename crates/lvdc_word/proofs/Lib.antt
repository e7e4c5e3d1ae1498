pub mod Parity
pub mod Bits
mod Fractions
mod Rows
