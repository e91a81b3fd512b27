pub mod Codecs
pub mod Fields
pub mod Masks
pub mod Served
pub mod Tested
pub mod Whole
pub mod Widths
pub mod Written
