-- Definitions of the formats of netpbm: PAM, PPM and PGM.
pub mod Words
pub mod Fields
pub mod Pam
pub mod Header
pub mod Raster
pub mod Image
