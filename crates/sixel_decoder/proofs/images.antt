pub mod Finality
pub mod FinishedImages
pub mod FoundPayloads
pub mod ImageEnds
pub mod StableRows
pub mod WholePictures
