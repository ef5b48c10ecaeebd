-- The tokens of definitions and marks, newest first, and that they spell the text.
use Rattle.std.proofs.Common.{decimal, slice_index, List, append_assoc, arith, false, sym, ℕ, ◌++◌}
use Rattle.std.proofs.Common.{◌∷◌, ◌≡◌, []}
use Rattle.std.specs.Prelude.{slice_index_or}
use Rattle.std.proofs.lemmas.{Bool.Decides.nat_tests, Fmt.decimal_digit, List.append-nil}
use Rattle.sixel_encoder.proofs.round_trip.Digits.{numbers}
use Rattle.sixel_base.specs.{Bytes.{count, is_parameter}, History.{AreTokens, Color, History}}
use Rattle.sixel_base.specs.History.{IsToken, Newline, Raster, Repeat, Return, Sixel, Token}
use Rattle.sixel_base.specs.{History.{spellings, start}, Settings.pad_of}
use Rattle.sixel_palette.specs.Refined.{percentage}
use Rattle.sixel_encoder.specs.Marks.{Back, Definition, Draw, Mark, Next, Pick, definitions_text}
use Rattle.sixel_encoder.specs.{Marks.{mark_text, marks_payload, marks_text}, RunTokens.{Many, One}}
use Rattle.sixel_encoder.specs.RunTokens.{RunToken, row_tokens, written}
use Rattle.sixel_encoder.specs.{RunTokens.spelling as run_token_spelling, Text.Drawing}

-- a token whose first byte no text takes may follow any
pub token-more : (token : Token) (h : History) → IsToken token → is_parameter (start token) ≡ false
    → AreTokens h → AreTokens (token ∷ h)
token-more token h is apart are = (is, grind (arith, nat_tests), are)

-- ---- the tokens

-- a run-length token is a sixel, perhaps repeated
abbrev pub with_run_token : RunToken → History → History
with_run_token (One bits) h = Sixel bits ∷ h
with_run_token (Many count bits) h = Sixel bits ∷ Repeat (decimal count) ∷ h

-- the run-length tokens, one after the other
abbrev pub with_run_tokens : List RunToken → History → History
with_run_tokens [] h = h
with_run_tokens (token ∷ tokens) h = with_run_tokens tokens (with_run_token token h)

-- a mark is a color introducer of one number, a row of run-length tokens, a return or a new line
abbrev pub with_mark : Mark → History → History
with_mark (Pick register) h = Color (numbers register []) ∷ h
with_mark (Draw row) h = with_run_tokens (row_tokens row) h
with_mark Back h = Return ∷ h
with_mark Next h = Newline ∷ h

-- the marks, one after the other
abbrev pub with_marks : List Mark → History → History
with_marks [] h = h
with_marks (mark ∷ marks) h = with_marks marks (with_mark mark h)

-- the numbers of a color's definition after its entry
abbrev pub percentages : List ℕ → List ℕ
percentages color =
    2 ∷ percentage (slice_index color 0) ∷ percentage (slice_index color 1)
    ∷ percentage (slice_index color 2) ∷ []

-- a definition of a register
abbrev pub with_definition : Drawing → Definition → History → History
with_definition drawing definition h =
    Color
    (numbers definition.register (percentages (slice_index_or drawing.colors definition.entry [])))
    ∷ h

-- the definitions, one after the other
abbrev pub with_definitions : Drawing → List Definition → History → History
with_definitions drawing [] h = h
with_definitions drawing (definition ∷ definitions) h =
    with_definitions drawing definitions (with_definition drawing definition h)

-- the numbers of the raster attributes after the first
abbrev pub sizes : Drawing → List ℕ
sizes drawing = 1 ∷ drawing.width ∷ drawing.height ∷ []

-- the token of the raster attributes
abbrev pub raster_of : Drawing → Token
raster_of drawing = Raster (numbers (pad_of drawing.aspect_ratio) (sizes drawing))

-- the raster attributes, then the definitions
abbrev pub with_palette : Drawing → List Definition → History
with_palette drawing definitions = with_definitions drawing definitions (raster_of drawing ∷ [])

-- the tokens of the whole payload
abbrev pub tokens : Drawing → List Definition → List Mark → History
tokens drawing definitions marks = with_marks marks (with_palette drawing definitions)

-- ---- they spell the text

-- a run-length token appends its bytes
spellings-run_token : (token : RunToken) (h : History)
    → spellings (with_run_token token h) ≡ spellings h ++ run_token_spelling token
spellings-run_token token h = grind (arith, nat_tests, append_assoc)

-- run-length tokens append theirs
spellings-run_tokens : (tokens : List RunToken) (h : History)
    → spellings (with_run_tokens tokens h) ≡ spellings h ++ written tokens
spellings-run_tokens [] h = sym (append-nil (spellings h))
spellings-run_tokens (token ∷ tokens) h =
    rw (spellings-run_tokens tokens (with_run_token token h), spellings-run_token, append_assoc)

-- a mark appends its text
spellings-mark : (mark : Mark) (h : History)
    → spellings (with_mark mark h) ≡ spellings h ++ mark_text mark
spellings-mark mark h = grind (arith, nat_tests, spellings-run_tokens)

-- marks append theirs
spellings-marks : (marks : List Mark) (h : History)
    → spellings (with_marks marks h) ≡ spellings h ++ marks_text marks
spellings-marks [] h = sym (append-nil (spellings h))
spellings-marks (mark ∷ marks) h =
    rw (spellings-marks marks (with_mark mark h), spellings-mark, append_assoc)

-- a definition's bytes in one order of joining
definition-joined : (e r g b : List ℕ)
    → 35 ∷ (e ++ 59 ∷ (50 ∷ 59 ∷ (r ++ 59 ∷ (g ++ 59 ∷ b))))
    ≡ (35 ∷ []) ++ e ++ (59 ∷ 50 ∷ 59 ∷ []) ++ r ++ (59 ∷ []) ++ g ++ (59 ∷ []) ++ b
definition-joined e r g b = simp append_assoc

-- definitions append their text
spellings-definitions : (drawing : Drawing) (definitions : List Definition) (h : History)
    → spellings (with_definitions drawing definitions h)
    ≡ spellings h ++ definitions_text drawing definitions
spellings-definitions drawing [] h = sym (append-nil (spellings h))
spellings-definitions drawing (definition ∷ definitions) h =
    let rest = spellings-definitions drawing definitions (with_definition drawing definition h) in
    grind (arith, nat_tests, decimal_digit, definition-joined, append_assoc)

-- the bytes of the raster attributes in one order of joining
raster-joined : (p w h : List ℕ)
    → 34 ∷ (p ++ 59 ∷ (49 ∷ 59 ∷ (w ++ 59 ∷ h)))
    ≡ (34 ∷ []) ++ p ++ (59 ∷ 49 ∷ 59 ∷ []) ++ w ++ (59 ∷ []) ++ h
raster-joined p w h = simp append_assoc

-- the tokens spell the payload
pub spellings-tokens : (drawing : Drawing) (definitions : List Definition) (marks : List Mark)
    → spellings (tokens drawing definitions marks) ≡ marks_payload drawing definitions marks
spellings-tokens drawing definitions marks =
    grind (arith, nat_tests, spellings-marks, spellings-definitions, decimal_digit, raster-joined)
