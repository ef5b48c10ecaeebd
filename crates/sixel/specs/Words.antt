-- Which arguments ask for which work, or for a notice. They are this program's own. A number is
-- written in decimal digits alone.
use Rattle.std.specs.Prelude.{◌≡◌, ◌<◌, ◌∷◌, [], List, ℕ, codes, map, None, Err, Ok, Option, Result}
use Rattle.std.specs.Prelude.{Some, String, option_and_then, option_map, string_bytes}
use Rattle.std.specs.declared.alloc.Global.{Global}
use Rattle.sixel.specs.{Number.{number_of, number_within}, Options.{Stated, Wrong, default_options}}
use Rattle.sixel.specs.Options.{stated_by, wrong_of}
use Rattle.sixel.specs.declared.draw.option_fault.OptionFault.{OptionFault}
use Rattle.sixel.specs.declared.{draw.options.Drawing.Drawing, notice.Notice.Notice}
use Rattle.sixel.specs.declared.notice.Notice.TheVariants.{Help, Version}
use Rattle.sixel.specs.declared.picture.PictureWord.{PictureWord}
use Rattle.sixel.specs.declared.{picture.PictureWord.TheVariants.{Pam, Draw}, words.Word.Word}
use Rattle.sixel.specs.declared.words.Word.TheVariants.{Payload, Decode, Frames, Encode}
use Rattle.sixel.specs.declared.{work.Work.Work, work.Work.TheVariants.{Data, Picture}}

-- work on data that can be done: chunks have at least one byte
abbrev pub IsServable : Word → Type 0
IsServable (Frames length) = 0 < length
IsServable _ = Unit {0}

-- work that can be done
abbrev pub IsDoable : Work → Type 0
IsDoable (Data word) = IsServable word
IsDoable (Picture word) = Unit {0}

-- the work that an argument asks for, with up to three more after it
abbrev pub Asks : Word → List ℕ → Option (List ℕ) → Option (List ℕ) → Option (List ℕ) → Type 0
Asks Payload word a b c = (word ≡ codes "payload") × (a ≡ None) × (b ≡ None) × (c ≡ None)
Asks Decode word a b c = (word ≡ codes "decode") × (a ≡ None) × (b ≡ None) × (c ≡ None)
Asks (Frames length) word a b c =
    (word ≡ codes "frames") × (option_and_then number_of a ≡ Some length) × (0 < length)
    × (b ≡ None) × (c ≡ None)
Asks (Encode width height colors) word a b c =
    (word ≡ codes "encode") × (option_and_then number_of a ≡ Some width)
    × (option_and_then number_of b ≡ Some height)
    × (option_and_then (number_within 0 65535) c ≡ Some colors)

-- the work that one argument asks for, with up to three more
abbrev pub IsAskedInFour : List (List ℕ) → Word → Type 0
IsAskedInFour (word ∷ []) asked = Asks asked word None None None
IsAskedInFour (word ∷ a ∷ []) asked = Asks asked word (Some a) None None
IsAskedInFour (word ∷ a ∷ b ∷ []) asked = Asks asked word (Some a) (Some b) None
IsAskedInFour (word ∷ a ∷ b ∷ c ∷ []) asked = Asks asked word (Some a) (Some b) (Some c)
IsAskedInFour _ asked = ⊥

-- the first argument is `draw`
abbrev pub BeginsWithDraw : List (List ℕ) → Type 0
BeginsWithDraw [] = ⊥
BeginsWithDraw (word ∷ words) = word ≡ codes "draw"

-- the work on images in netpbm's formats that the arguments after the program's own name ask for
abbrev pub IsPictureAskedBy : List (List ℕ) → PictureWord → Type 0
IsPictureAskedBy words Pam = words ≡ codes "pam" ∷ []
IsPictureAskedBy [] (Draw options) = ⊥
IsPictureAskedBy (word ∷ words) (Draw options) =
    (word ≡ codes "draw")
    × (stated : Stated) × (stated_by default_options None words ≡ Ok stated)
    × (options ≡ stated.options)

-- the work that the arguments after the program's own name ask for
abbrev pub IsAskedBy : List (List ℕ) → Work → Type 0
IsAskedBy words (Data word) = IsAskedInFour words word
IsAskedBy words (Picture word) = IsPictureAskedBy words word

-- the arguments after the program's own name ask for this notice, whatever the input is
abbrev pub IsNoticeFor : List (List ℕ) → Notice → Type 0
IsNoticeFor words Help = words ≡ codes "--help" ∷ []
IsNoticeFor words Version = words ≡ codes "--version" ∷ []

-- the bytes of each argument
abbrev pub words_of : List (String Global) → List (List ℕ)
words_of words = map string_bytes words

-- what the code read of the arguments after `draw`, by its bytes
abbrev pub stated_of : Drawing → Stated
stated_of it = record {
  options = it.options;
  path = option_map (λ path. path.now) it.path;
  files = words_of it.files.now;
}

-- the same, or what is wrong with them
abbrev pub drawing_told : Result Drawing OptionFault → Result Stated Wrong
drawing_told (Ok it) = Ok (stated_of it)
drawing_told (Err fault) = Err (wrong_of fault)
