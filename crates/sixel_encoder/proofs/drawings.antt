pub mod Background
pub mod EncodedText
pub mod IndexedText
pub mod PaletteText
pub mod RefinedText
pub mod SameDithering
pub mod SameDrawing
pub mod Sizes
