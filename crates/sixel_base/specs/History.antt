-- The grammar of a payload: its tokens, how each is spelled, and which lists of tokens spell a list
-- of bytes. A history is the tokens newest first, so that "the last one before" is a recursion. The
-- commands are those of DEC's sixel data: repeat introducer, raster attributes, color introducer,
-- graphics carriage return and graphics new line.
use Rattle.std.specs.{List.list_all, Prelude.{ℕ, ◌+◌, ◌-◌, ◌<◌, ◌==◌, ◌≡◌, Bool, false}}
use Rattle.std.specs.Prelude.{if◌then◌else◌, List, [], ◌∷◌, ◌++◌, IsTrue, fold}
use Rattle.sixel_base.specs.Bytes.{is_sixel, is_digit, is_parameter, is_skipped}

-- A sixel by its six bits, a command by the text of its parameters, a byte that is skipped.
pub data Token : Type 0 where
  Sixel : ℕ → Token
  Repeat : List ℕ → Token
  Raster : List ℕ → Token
  Color : List ℕ → Token
  Return : Token
  Newline : Token
  Skip : ℕ → Token

abbrev pub History : Type 0
History = List Token

-- the byte that a token begins with
abbrev pub start : Token → ℕ
start (Sixel bits) = 63 + bits
start (Repeat _) = 33
start (Raster _) = 34
start (Color _) = 35
start Return = 36
start Newline = 45
start (Skip byte) = byte

-- the parameters after it
abbrev pub text : Token → List ℕ
text (Repeat t) = t
text (Raster t) = t
text (Color t) = t
text _ = []

abbrev pub spelling : Token → List ℕ
spelling token = start token ∷ text token

-- the bytes of a history, oldest first
abbrev pub spellings : History → List ℕ
spellings [] = []
spellings (token ∷ older) = spellings older ++ spelling token

-- six bits; digits; digits and semicolons; a byte of no other class
abbrev pub IsToken : Token → Type 0
IsToken (Sixel bits) = bits < 64
IsToken (Repeat t) = IsTrue (list_all is_digit t)
IsToken (Raster t) = IsTrue (list_all is_parameter t)
IsToken (Color t) = IsTrue (list_all is_parameter t)
IsToken Return = Unit {0}
IsToken Newline = Unit {0}
IsToken (Skip byte) = IsTrue (is_skipped byte)

-- whether a token's text may go on with the byte
abbrev pub takes : Token → ℕ → Bool
takes (Repeat _) byte = is_digit byte
takes (Raster _) byte = is_parameter byte
takes (Color _) byte = is_parameter byte
takes _ byte = false

-- whether the newest token may go on with the byte
abbrev pub goes_on : History → ℕ → Bool
goes_on [] byte = false
goes_on (token ∷ older) byte = takes token byte

-- Each is a token, and none could have gone on with the byte that the next begins with.
abbrev pub AreTokens : History → Type 0
AreTokens [] = Unit {0}
AreTokens (token ∷ older) = IsToken token × (goes_on older (start token) ≡ false) × AreTokens older

-- the history spells the bytes
abbrev pub IsHistory : List ℕ → History → Type 0
IsHistory bytes history = (spellings history ≡ bytes) × AreTokens history

-- the token that a byte begins
abbrev pub begun : ℕ → Token
begun byte =
    if is_sixel byte then Sixel (byte - 63)
    else if byte == 33 then Repeat []
    else if byte == 34 then Raster []
    else if byte == 35 then Color []
    else if byte == 36 then Return
    else if byte == 45 then Newline
    else Skip byte

-- a token whose text goes on with a byte
abbrev pub with_byte : Token → ℕ → Token
with_byte (Repeat t) byte = Repeat (t ++ byte ∷ [])
with_byte (Raster t) byte = Raster (t ++ byte ∷ [])
with_byte (Color t) byte = Color (t ++ byte ∷ [])
with_byte token byte = token

abbrev pub longer : History → ℕ → History
longer [] byte = []
longer (token ∷ older) byte = with_byte token byte ∷ older

-- the history after one more byte: the newest token goes on, or the byte begins one
abbrev pub read : History → ℕ → History
read history byte = if goes_on history byte then longer history byte else begun byte ∷ history

-- the history of the bytes that carry meaning
abbrev pub history_of : List ℕ → History
history_of bytes = fold read [] bytes
