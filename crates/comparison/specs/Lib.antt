pub mod Comparing
pub mod Encodings
pub mod Statements
pub mod Words
