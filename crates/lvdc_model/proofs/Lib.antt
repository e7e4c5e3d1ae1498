pub mod LedgerRows
pub mod VotedRows
pub mod LongRows
pub mod ProgramRows
pub mod SimplexRows
pub mod Stuck
pub mod Latching
mod CopyRows
mod MemoryRows
mod EndRows
