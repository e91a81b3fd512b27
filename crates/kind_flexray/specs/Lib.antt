pub mod Examples
pub mod FlexRay
pub mod Shapes
