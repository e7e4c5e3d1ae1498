pub mod Limits
pub mod Macros
pub mod Substitution
pub mod Faults
pub mod Expansion
pub mod Making
pub mod Plain
