pub mod Over
pub mod Commands
pub mod Rack
pub mod Inquired
pub mod Words
pub mod Replies
