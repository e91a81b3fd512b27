pub mod Cutting
pub mod Image
pub mod Items
pub mod ReadingBack
