pub mod CodecLaws
pub mod MnemonicLaws
mod Rows
