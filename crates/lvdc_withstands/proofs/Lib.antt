mod Rows
pub mod Sweeps
pub mod Steps
pub mod Marking
pub mod Naming
pub mod Gathered
pub mod Told
pub mod Seen
pub mod Lined
pub mod Deaths
pub mod Cells
pub mod Runs
pub mod Recovered
pub mod Admitted
pub mod Known
pub mod Spaced
pub mod Waiting
pub mod Noted
mod RepairRows
pub mod Lasting
pub mod Repairs
pub mod Corollaries
