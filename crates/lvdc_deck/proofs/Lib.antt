pub mod Tokens
pub mod Left
pub mod PortLines
pub mod TapeLines
pub mod Steps
pub mod Ends
pub mod Loaded
pub mod Types
pub mod MovedSource
pub mod MovedPlaces
pub mod MovedLines
pub mod Moved
pub mod Numbering
pub mod Alone
pub mod SessionDecks
pub mod Apart
pub mod SaidLines
mod Rows
