pub mod Apart
pub mod Frames
pub mod Law
