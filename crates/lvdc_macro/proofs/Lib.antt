mod Rows
mod Writing
mod Naming
mod Substituting
mod Calling
mod Stepping
mod PlainSources
