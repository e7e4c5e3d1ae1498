pub mod Work
pub mod Phase
pub mod Exchanges
pub mod States
pub mod Fits
pub mod Standing
