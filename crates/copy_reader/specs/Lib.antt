pub mod Cursors
pub mod Parts
pub mod Passing
pub mod Readers
