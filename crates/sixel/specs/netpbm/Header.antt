-- What the header of an image says, by netpbm's pages pam(5), ppm(5) and pgm(5).
use Rattle.std.specs.{List.starts_with, Prelude.{ℕ, nat_eq, if◌then◌else◌, List, codes, drop, Some}}
use Rattle.std.specs.Prelude.{Err}
use Rattle.sixel.specs.{Number.number_of, declared.netpbm.error.NetpbmError.TheVariants.Magic}
use Rattle.sixel.specs.{netpbm.Fields.{Read, checked, with_rest}, netpbm.Pam.pam_header}
use Rattle.sixel.specs.netpbm.Words.{after_gap, after_word, word_of}

-- The header of a PPM or a PGM file after its magic number. Its numbers follow gaps. One byte, a
-- blank, is between the last one and the pixels.
abbrev pub pnm_header : ℕ → List ℕ → Read
pnm_header depth bytes =
    let width = after_gap bytes in
    let height = after_gap (after_word width) in
    let maxval = after_gap (after_word height) in
    with_rest (drop 1 (after_word maxval))
    (checked (number_of (word_of width)) (number_of (word_of height)) (Some depth)
    (number_of (word_of maxval)))

-- the header that the bytes begin with, by their magic number, and the bytes after it
abbrev pub header_of : List ℕ → Read
header_of bytes =
    if starts_with nat_eq bytes (codes "P7") then pam_header (drop 2 bytes)
    else (if starts_with nat_eq bytes (codes "P6") then pnm_header 3 (drop 2 bytes)
    else (if starts_with nat_eq bytes (codes "P5") then pnm_header 1 (drop 2 bytes)
    else Err Magic))
