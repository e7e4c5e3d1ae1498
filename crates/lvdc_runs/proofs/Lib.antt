mod Equal
mod Admitted
mod Plainly
mod Verdicts
mod Words
mod Through
mod Unhurt
pub mod Stationed
pub mod Onward
mod Windowed
