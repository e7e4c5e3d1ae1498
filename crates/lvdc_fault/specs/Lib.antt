pub mod Codes
pub mod Damage
pub mod Events
pub mod Ledger
pub mod Recoverable
pub mod Script
pub mod Hurts
