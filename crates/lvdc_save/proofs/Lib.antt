pub mod Below
mod Words
mod Ended
mod Fields
mod FaultFields
mod FaultLines
mod PairsAndOrders
mod EntryLines
mod EntriesBack
mod LinesBack
mod Rows
mod Texts
mod Printing
mod Sizes
mod AllPrinted
