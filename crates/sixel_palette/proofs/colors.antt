pub mod Colors
pub mod Distance
pub mod Lists
pub mod Shown
