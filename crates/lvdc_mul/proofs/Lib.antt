pub mod ControlLaws
pub mod Phases
pub mod Words
pub mod Multiples
pub mod Products
pub mod Quotients
mod Rows
