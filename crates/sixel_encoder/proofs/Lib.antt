pub mod band_rows
pub mod compact_form
pub mod drawings
pub mod plain_text
pub mod round_trip
pub mod JoinedLists
pub mod TextLaws
pub mod MaskBits
