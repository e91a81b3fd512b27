pub mod Backs
pub mod Bounds
pub mod Handing
pub mod Opening
pub mod Passes
pub mod Shown
pub mod Streams
pub mod Turning
