pub mod Checked
pub mod Parts
pub mod Wide
