mod Over
mod Rows
mod Inquiring
mod Held
mod Benched
pub mod Forms
pub mod Studies
