pub mod Examples
pub mod Lin
pub mod Shapes
