pub mod Can
pub mod Examples
pub mod Shapely
