pub mod Firsts
pub mod Lists
pub mod OneByOne
pub mod Places
pub mod Supplied
mod Rows
pub mod Words
