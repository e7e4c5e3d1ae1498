pub mod Items
pub mod Names
pub mod Numbers
pub mod Lines
pub mod Operations
pub mod Operands
pub mod Source
pub mod Faults
