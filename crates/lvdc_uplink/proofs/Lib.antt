mod Rows
pub mod Placing
pub mod Searching
pub mod Words
pub mod Applying
pub mod Repeating
pub mod Outcomes
pub mod Histories
pub mod Ranged
pub mod Sound
pub mod Storing
pub mod Hearing
pub mod Holding
pub mod AsHeard
pub mod Steps
pub mod Sending
pub mod Lengths
pub mod Listening
mod ReplyRows
