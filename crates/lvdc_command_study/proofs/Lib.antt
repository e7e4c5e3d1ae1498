mod Rows
mod Runnable
mod Answering
