pub mod Behind
mod Blanks
pub mod Counts
pub mod Noted
pub mod NotedLines
pub mod Shown
pub mod Rows
mod SumRows
pub mod Sizes
pub mod ToldLines
