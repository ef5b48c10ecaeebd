-- The header of a PAM file, by netpbm's page pam(5). Lines of a name and a value follow the magic
-- number in any order, each name once, up to the line `ENDHDR`. Empty lines and lines that begin
-- with `#` are comments. A known tuple type has its number of samples.
use Rattle.std.specs.Prelude.{ℕ, ◌||◌, ◌==◌, nat_lt, nat_eq, not, if◌then◌else◌, List, [], ◌∷◌}
use Rattle.std.specs.Prelude.{◌++◌, codes, length, Option, None, Some, option_and_then, Bool}
use Rattle.std.specs.{Prelude.{option_map, Result, Ok, Err, false}, List.starts_with, Str.bytes_eq}
use Rattle.sixel.specs.{Number.number_of, declared.netpbm.error.NetpbmError.NetpbmError}
use Rattle.sixel.specs.{declared.netpbm.header.Header.Header, declared.netpbm.pam.Fields.Fields}
use Rattle.sixel.specs.{netpbm.Fields.{Read, checked, with_rest}, netpbm.Words.after_blanks}
use Rattle.sixel.specs.netpbm.Words.{after_word, word_of}
use Rattle.sixel.specs.declared.netpbm.error.NetpbmError.TheVariants.{TupleType as WrongType}
use Rattle.sixel.specs.declared.netpbm.error.NetpbmError.TheVariants.{Header as Malformed}

abbrev pub no_fields : Fields
no_fields = record {
  width = None;
  height = None;
  depth = None;
  maxval = None;
  tuple_depth = None;
}

-- the samples of a pixel of this tuple type, or 0 if it is unknown
abbrev pub tuple_depth : List ℕ → ℕ
tuple_depth name =
    if bytes_eq name (codes "RGB_ALPHA") then 4
    else (if bytes_eq name (codes "RGB") then 3
    else (if bytes_eq name (codes "GRAYSCALE_ALPHA") || bytes_eq name (codes "BLACKANDWHITE_ALPHA")
    then 2
    else (if bytes_eq name (codes "GRAYSCALE") || bytes_eq name (codes "BLACKANDWHITE") then 1
    else 0)))

-- the value of a field that was not there before
abbrev pub first : Option ℕ → Option ℕ → Option ℕ
first None value = value
first (Some _) value = None

-- the fields with that of this name, if it was not there before
abbrev pub with_field : Fields → List ℕ → List ℕ → Option Fields
with_field fields name value =
    if bytes_eq name (codes "WIDTH")
    then option_map (λ n. record fields { width = Some n }) (first fields.width (number_of value))
    else (if bytes_eq name (codes "HEIGHT")
    then option_map (λ n. record fields { height = Some n }) (first fields.height (number_of value))
    else (if bytes_eq name (codes "DEPTH")
    then option_map (λ n. record fields { depth = Some n }) (first fields.depth (number_of value))
    else (if bytes_eq name (codes "MAXVAL")
    then option_map (λ n. record fields { maxval = Some n }) (first fields.maxval (number_of value))
    else (if bytes_eq name (codes "TUPLTYPE")
    then option_map (λ n. record fields { tuple_depth = Some n })
    (first fields.tuple_depth (Some (tuple_depth value)))
    else None))))

-- the name of a line
abbrev pub name_of : List ℕ → List ℕ
name_of line = word_of (after_blanks line)

-- the bytes of a line after its name
abbrev pub after_name : List ℕ → List ℕ
after_name line = after_blanks (after_word (after_blanks line))

-- the fields with that of a line of two words, or of a comment
abbrev pub with_line : Fields → List ℕ → Option Fields
with_line fields line =
    if length (name_of line) == 0 || starts_with nat_eq (name_of line) (codes "#") then Some fields
    else (if length (after_blanks (after_word (after_name line))) == 0
    then with_field fields (name_of line) (word_of (after_name line))
    else None)

-- whether a line is the last one of the header
abbrev pub is_end : List ℕ → Bool
is_end line = bytes_eq (name_of line) (codes "ENDHDR")

-- the fields with those of the lines before the last one, and the bytes after that, from inside of
-- a line that begins with these bytes
abbrev pub read_lines : Fields → List ℕ → List ℕ → Option (Fields × List ℕ)
read_lines fields line [] = None
read_lines fields line (byte ∷ bytes) =
    if byte == 10
    then (if is_end line then Some (fields, bytes)
    else option_and_then (λ f. read_lines f [] bytes) (with_line fields line))
    else read_lines fields (line ++ byte ∷ []) bytes

-- whether the tuple type has another number of samples
abbrev pub differs : Option ℕ → ℕ → Bool
differs None depth = false
differs (Some tuple_depth) depth = not (tuple_depth == depth)

-- a header whose pixels have one to four samples, those of the tuple type
abbrev pub with_type : Option ℕ → Result Header NetpbmError → Result Header NetpbmError
with_type tuple_depth (Ok header) =
    if nat_lt 4 header.depth || differs tuple_depth header.depth then Err WrongType
    else Ok header
with_type tuple_depth (Err error) = Err error

-- the header of these fields
abbrev pub header_of_fields : Fields → Result Header NetpbmError
header_of_fields fields =
    with_type fields.tuple_depth (checked fields.width fields.height fields.depth fields.maxval)

-- a header of the fields that were read, and the bytes after it
abbrev pub header_read : Option (Fields × List ℕ) → Read
header_read None = Err Malformed
header_read (Some (fields, raster)) = with_rest raster (header_of_fields fields)

-- the header after the magic number
abbrev pub pam_header : List ℕ → Read
pam_header bytes = header_read (read_lines no_fields [] bytes)
