mod Steps
mod Sizes
mod Worked
