pub mod Layout
pub mod Row
pub mod Drawn
pub mod Paints
pub mod inside
