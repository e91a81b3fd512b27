pub mod Examples
pub mod Layouts
pub mod Law
