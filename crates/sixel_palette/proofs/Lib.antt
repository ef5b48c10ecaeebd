pub mod bitmaps
pub mod colors
pub mod mapped_images
pub mod nearest_entries
pub mod refinement
pub mod traversal
