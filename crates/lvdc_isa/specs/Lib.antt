pub mod Instr
pub mod Mnemonics
pub mod Shift
