pub mod Rooms
pub mod Answered
pub mod Commands
pub mod Inputs
pub mod Dues
pub mod Ends
pub mod Rows
pub mod Printed
pub mod Renewing
pub mod LeftInTime
pub mod Going
pub mod Restoring
pub mod KindsLeft
pub mod HeldWords
pub mod Telling
pub mod AnyOrder
pub mod Wholes
mod DeviceRows
