pub mod Histories
pub mod ToleratedTokens
pub mod Fields
pub mod KeptFields
pub mod DefaultCodes
pub mod PictureBytes
pub mod Sixels
