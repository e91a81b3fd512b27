pub mod Entries
pub mod Heads
pub mod Layout
pub mod Packets
pub mod Reading
pub mod Statements
pub mod Views
pub mod Steps
