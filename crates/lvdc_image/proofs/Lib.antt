mod Rows
pub mod Parts
pub mod Sizes
pub mod WordLines
pub mod Printing
pub mod Digits
pub mod Rising
pub mod FieldsBack
pub mod WordsBack
pub mod StartBack
pub mod BanksBack
pub mod ImageBack
pub mod TextBack
