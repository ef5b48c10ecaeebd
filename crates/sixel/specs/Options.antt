-- What the arguments after `draw` state: pairs of an option, whose name begins with `-`, and a
-- value, of which the last one of a name counts, and then names of files. `-c` and `-p` contradict
-- each other. They are this program's own.
use Rattle.std.specs.{Option.{ok_or, unwrap_or}, Prelude.{◌∷◌, [], List, ℕ, codes, Option, None}}
use Rattle.std.specs.Prelude.{Some, option_map, nat_lt, if◌then◌else◌, Result, Ok, Err, Bool, false}
use Rattle.std.specs.{Prelude.{◌||◌}, Str.bytes_eq, Str.Parse.starts_with_minus}
use Rattle.sixel_palette.specs.{declared.dither.Dither.Dither, declared.mapping.Mapping.Mapping}
use Rattle.sixel_palette.specs.declared.mapping.Tolerance.TheVariants.{Auto, Squared}
use Rattle.sixel.specs.{Number.number_within, declared.draw.option_fault.OptionFault.OptionFault}
use Rattle.sixel.specs.declared.draw.options.DitherKind.{DitherKind}
use Rattle.sixel.specs.declared.draw.options.DitherKind.TheVariants.{Off, Diffusion, Ordered}
use Rattle.sixel.specs.declared.draw.options.DrawOptions.{DrawOptions}
use Rattle.sixel.specs.declared.draw.options.DrawPalette.{DrawPalette}
use Rattle.sixel.specs.declared.draw.options.DrawPalette.TheVariants.{Standard, Refined, File}
use Rattle.sixel.specs.declared.draw.options.TheConstants.{MAX_DISTANCE}
use Rattle.sixel_palette.specs.declared.dither.Amplitude.TheVariants as amplitudes
use Rattle.sixel_palette.specs.declared.dither.Dither.TheVariants as dithers
use Rattle.sixel.specs.declared.draw.option_fault.OptionFault.TheVariants as faults

-- a palette, a strength and a tolerance that no option states, and diffusion
abbrev pub default_options : DrawOptions
default_options = record {
  palette = Standard;
  kind = Diffusion;
  strength = None;
  tolerance = Auto;
}

-- the greatest value of `-s` for this kind of dithering
abbrev pub max_strength : DitherKind → ℕ
max_strength Off = 0
max_strength Diffusion = 8
max_strength Ordered = 255

-- the eighths of an error that are passed on if no option states them
abbrev pub standard_strength : DrawPalette → ℕ
standard_strength Standard = 7
standard_strength (Refined max_colors) = 7
standard_strength File = 8

-- this kind of dithering for this palette, with this value of `-s`
abbrev pub dither_with : DrawPalette → Option ℕ → DitherKind → Dither
dither_with palette strength Off = dithers.Off
dither_with palette strength Diffusion =
    dithers.Diffusion (unwrap_or strength (standard_strength palette))
dither_with palette None Ordered = dithers.Ordered amplitudes.Auto
dither_with palette (Some levels) Ordered = dithers.Ordered (amplitudes.Levels levels)

-- how pixels get their entries
abbrev pub mapping_of : DrawOptions → Mapping
mapping_of options = record {
  dither = dither_with options.palette options.strength options.kind;
  tolerance = options.tolerance;
}

-- what is wrong with the arguments, and with which one
pub data Wrong : Type 0 where
  Unknown : List ℕ → Wrong
  NoValue : List ℕ → Wrong
  Colors : List ℕ → Wrong
  NoDither : List ℕ → Wrong
  Strength : Wrong
  NoTolerance : List ℕ → Wrong
  Palettes : Wrong

abbrev pub wrong_of : OptionFault → Wrong
wrong_of (faults.Unknown name) = Unknown name.now
wrong_of (faults.NoValue name) = NoValue name.now
wrong_of (faults.Colors value) = Colors value.now
wrong_of (faults.Dither value) = NoDither value.now
wrong_of faults.Strength = Strength
wrong_of (faults.Tolerance value) = NoTolerance value.now
wrong_of faults.Palettes = Palettes

-- a result of the code, by what its error says
abbrev pub told : {A : Type 0} → Result A OptionFault → Result A Wrong
told (Ok x) = Ok x
told (Err fault) = Err (wrong_of fault)

-- the palette of `-c` with this value, after that of the options before
abbrev pub counted : DrawPalette → List ℕ → Result DrawPalette Wrong
counted File value = Err Palettes
counted _ value = ok_or (option_map Refined (number_within 0 65535 value)) (Colors value)

-- the palette of `-p`
abbrev pub of_file : DrawPalette → Result DrawPalette Wrong
of_file (Refined max_colors) = Err Palettes
of_file _ = Ok File

-- the kind of dithering of this name
abbrev pub kind_of : List ℕ → Result DitherKind Wrong
kind_of name =
    if bytes_eq name (codes "none") then Ok Off
    else (if bytes_eq name (codes "diffusion") then Ok Diffusion
    else (if bytes_eq name (codes "ordered") then Ok Ordered else Err (NoDither name)))

-- what follows from a result without an error
abbrev pub and_then : {A B : Type 0} → (A → Result B Wrong) → Result A Wrong → Result B Wrong
and_then next (Ok x) = next x
and_then next (Err wrong) = Err wrong

-- the options after one of this name with this value
abbrev pub with_option : DrawOptions → List ℕ → List ℕ → Result DrawOptions Wrong
with_option options name value =
    if bytes_eq name (codes "-c")
    then and_then (λ it. Ok (record options { palette = it })) (counted options.palette value)
    else (if bytes_eq name (codes "-p")
    then and_then (λ it. Ok (record options { palette = it })) (of_file options.palette)
    else (if bytes_eq name (codes "-d")
    then and_then (λ it. Ok (record options { kind = it })) (kind_of value)
    else (if bytes_eq name (codes "-s")
    then and_then (λ it. Ok (record options { strength = Some it }))
    (ok_or (number_within 1 255 value) Strength)
    else (if bytes_eq name (codes "-t")
    then and_then (λ it. Ok (record options { tolerance = Squared it }))
    (ok_or (number_within 0 MAX_DISTANCE value) (NoTolerance value))
    else Err (Unknown name)))))

-- what is wrong with a last argument without a value
abbrev pub last_wrong : List ℕ → Wrong
last_wrong name =
    if bytes_eq name (codes "-c") || bytes_eq name (codes "-p") || bytes_eq name (codes "-d")
    || bytes_eq name (codes "-s") || bytes_eq name (codes "-t")
    then NoValue name else Unknown name

-- options, the value of the last `-p`, and the names of files
pub record Stated : Type 0 where
  pub options : DrawOptions
  pub path : Option (List ℕ)
  pub files : List (List ℕ)

-- a strength is at most that of the kind of dithering
abbrev pub is_strong : DrawOptions → Option ℕ → Bool
is_strong options None = false
is_strong options (Some strength) = nat_lt (max_strength options.kind) strength

-- nothing is left but names of files
abbrev pub ended : DrawOptions → Option (List ℕ) → List (List ℕ) → Result Stated Wrong
ended options path files =
    if is_strong options options.strength then Err Strength
    else Ok (record { options = options; path = path; files = files })

-- the path after an option
abbrev pub path_after : Option (List ℕ) → List ℕ → List ℕ → Option (List ℕ)
path_after path name value = if bytes_eq name (codes "-p") then Some value else path

-- what these arguments state after these options and this path, or what is wrong with the first
-- one that is wrong
abbrev pub stated_by : DrawOptions → Option (List ℕ) → List (List ℕ) → Result Stated Wrong
stated_by options path [] = ended options path []
stated_by options path (name ∷ []) =
    if starts_with_minus name then Err (last_wrong name) else ended options path (name ∷ [])
stated_by options path (name ∷ value ∷ rest) =
    if starts_with_minus name
    then and_then (λ it. stated_by it (path_after path name value) rest)
    (with_option options name value)
    else ended options path (name ∷ value ∷ rest)
