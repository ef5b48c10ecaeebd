-- The tokens of a text of marks are its history, and the text's front is the whole of it.
use Rattle.std.specs.{List.list_all, Prelude.{All, IsTrue, flat_map, slice_index_or}}
use Rattle.std.proofs.Common.{Some, List, arith, length-append, refl, replicate, [], suc, sym, true}
use Rattle.std.proofs.Common.{zero, ℕ, ◌++◌, ◌+◌, ◌<◌, ◌∷◌, ◌≡◌, ◌≤◌}
use Rattle.std.proofs.lemmas.{Bool.Decides.nat_tests, Grind.common_steps, List.get_or-append-add}
use Rattle.std.proofs.lemmas.List.Elements.{All-head, All-same, All-tail}
use Rattle.sixel_base.specs.Bytes.{is_digit, is_parameter, before_terminator, carrying, count}
use Rattle.sixel_base.specs.{Bytes.{first_terminator, front}, Dcs.after_terminator}
use Rattle.sixel_base.specs.History.{spellings, AreTokens, Color, History, IsHistory, IsToken}
use Rattle.sixel_base.specs.History.{Newline, Raster, Repeat, Return, Sixel, Skip, Token}
use Rattle.sixel_base.specs.{History.{history_of, spelling}, Limits.repeat_limit, Settings.pad_of}
use Rattle.sixel_base.specs.declared.settings.PixelAspectRatio.{PixelAspectRatio}
use Rattle.sixel_base.proofs.Histories.{carries, history_unique}
use Rattle.sixel_encoder.specs.Marks.{AreAllowed, AreDefinitions, Back, Definition, Draw, Draws}
use Rattle.sixel_encoder.specs.Marks.{IsAllowed, Mark, Next, Pen, Pick, first_pen, marks_payload}
use Rattle.sixel_encoder.specs.{Marks.moved, Text.Drawing, Trip.{IsColor, IsWritable}}
use Rattle.sixel_encoder.specs.RunTokens.{IsRunToken, Many, One, RunToken, row_tokens, sixels}
use Rattle.sixel_encoder.proofs.round_trip.Digits.{AreFields, all_digits-decimal}
use Rattle.sixel_encoder.proofs.round_trip.Digits.{all_parameters-numbers, numbers}
use Rattle.sixel_encoder.proofs.round_trip.Tokens.{percentages, raster_of, sizes, spellings-tokens}
use Rattle.sixel_encoder.proofs.round_trip.Tokens.{token-more, tokens, with_definition}
use Rattle.sixel_encoder.proofs.round_trip.Tokens.{with_definitions, with_mark, with_marks}
use Rattle.sixel_encoder.proofs.round_trip.Tokens.{with_palette, with_run_token, with_run_tokens}
use Rattle.sixel_encoder.proofs.band_rows.ShortestRows.{spells}

-- a run-length token of six bits whose count can be written
abbrev pub IsSound : RunToken → Type 0
IsSound (One bits) = bits < 64
IsSound (Many count bits) = (bits < 64) × (1 ≤ count) × (count ≤ repeat_limit)

-- each of the run-length tokens is so
abbrev pub AreSound : List RunToken → Type 0
AreSound [] = Unit {0}
AreSound (token ∷ tokens) = IsSound token × AreSound tokens

-- what holds of two lists joined holds of the second
All-right : (P : ℕ → Type 0) (xs ys : List ℕ) → All P (xs ++ ys) → All P ys
All-right P xs ys all = grind (arith, nat_tests, get_or-append-add, length-append)

-- what holds of a repeated element holds of the element
All-repeated : (P : ℕ → Type 0) (n b : ℕ) (row : List ℕ) → 1 ≤ n → All P (replicate n b ++ row)
    → P b
All-repeated P zero b row some all = absurd (omega arith)
All-repeated P (suc n) b row some all = All-head P b (replicate n b ++ row) all

-- a run-length token whose sixels have six bits each
sound-run_token : (token : RunToken) (row : List ℕ) → IsRunToken token
    → All (λ b. b < 64) (sixels token ++ row) → IsSound token
unfolding sixels
sound-run_token token row is all = grind (arith, nat_tests, All-repeated)

-- run-length tokens whose sixels have six bits each
AreSound-spelled : (tokens : List RunToken) → All IsRunToken tokens
    → All (λ b. b < 64) (flat_map sixels tokens) → AreSound tokens
AreSound-spelled [] are all = tt
AreSound-spelled (token ∷ tokens) are all = (
  sound-run_token token (flat_map sixels tokens) (All-head IsRunToken token tokens are) all,
  AreSound-spelled tokens (All-tail IsRunToken token tokens are)
      (All-right (λ b. b < 64) (sixels token) (flat_map sixels tokens) all),
)

-- the run-length tokens of a row of six bits each
pub AreSound-row : (row : List ℕ) → All (λ b. b < 64) row → AreSound (row_tokens row)
AreSound-row row all = grind (arith, nat_tests, spells row, AreSound-spelled, All-same)

-- ---- each token may stand where it stands

-- run-length tokens may follow any token
AreTokens-run_tokens : (tokens : List RunToken) (h : History) → AreSound tokens → AreTokens h
    → AreTokens (with_run_tokens tokens h)
AreTokens-run_tokens [] h is are = are
AreTokens-run_tokens (token ∷ tokens) h is are =
    AreTokens-run_tokens tokens (with_run_token token h) is.1
    (grind (arith, nat_tests, token-more, all_digits-decimal, is.0))

-- so may a mark
AreTokens-mark : (drawing : Drawing) (pen : Pen) (mark : Mark) (h : History)
    → IsAllowed drawing pen mark → AreTokens h → AreTokens (with_mark mark h)
AreTokens-mark drawing pen (Pick register) h is are =
    token-more (Color (numbers register [])) h (all_parameters-numbers register [] (omega arith) tt)
    refl are
AreTokens-mark drawing pen (Draw row) h is are = grind (arith, AreTokens-run_tokens, AreSound-row)
AreTokens-mark drawing pen Back h is are = token-more Return h tt refl are
AreTokens-mark drawing pen Next h is are = token-more Newline h tt refl are

-- so may marks
AreTokens-marks : (drawing : Drawing) (pen : Pen) (marks : List Mark) (h : History)
    → AreAllowed drawing pen marks → AreTokens h → AreTokens (with_marks marks h)
AreTokens-marks drawing pen [] h is are = are
AreTokens-marks drawing pen (mark ∷ marks) h is are =
    AreTokens-marks drawing (moved pen mark) marks (with_mark mark h) is.1
    (AreTokens-mark drawing pen mark h is.0 are)

-- the percentages of a color fit fields
pub AreFields-percentages : (color : List ℕ) → IsColor color → AreFields (percentages color)
AreFields-percentages color is = grind (arith, nat_tests)

-- definitions may follow any token
AreTokens-definitions : (drawing : Drawing) (definitions : List Definition) (h : History)
    → IsWritable drawing → AreDefinitions drawing definitions → AreTokens h
    → AreTokens (with_definitions drawing definitions h)
AreTokens-definitions drawing [] h is known are = are
AreTokens-definitions drawing (definition ∷ definitions) h is known are =
    let color : List ℕ = slice_index_or drawing.colors definition.entry [] in
    AreTokens-definitions drawing definitions (with_definition drawing definition h) is known.1
    (token-more (Color (numbers definition.register (percentages color))) h
    (all_parameters-numbers definition.register (percentages color) (omega arith)
    (AreFields-percentages color (is.colors definition.entry [] known.0.1))) refl are)

-- a pixel's height has one digit
pub pad-small : (ratio : PixelAspectRatio) → pad_of ratio ≤ 5
pad-small ratio = grind (arith, nat_tests)

-- the sizes fit fields
pub AreFields-sizes : (drawing : Drawing) → IsWritable drawing → AreFields (sizes drawing)
AreFields-sizes drawing is = (omega arith, (omega (arith, is.wide), (omega (arith, is.high), tt)))

-- ---- and all of their bytes carry meaning

-- parameters carry meaning
carries-parameters : (t : List ℕ) → IsTrue (list_all is_parameter t) → IsTrue (list_all carries t)
carries-parameters [] all = refl
carries-parameters (b ∷ t) all = grind (arith, common_steps, carries-parameters t)

-- so do digits
carries-digits : (t : List ℕ) → IsTrue (list_all is_digit t) → IsTrue (list_all carries t)
carries-digits [] all = refl
carries-digits (b ∷ t) all = grind (arith, common_steps, carries-digits t)

-- so does a list of one byte that does
carries-byte : (b : ℕ) → carries b ≡ true → IsTrue (list_all carries (b ∷ []))
carries-byte b is = grind (arith, common_steps)

-- all bytes of a token carry meaning
carries-token : (token : Token) → IsToken token → IsTrue (list_all carries (spelling token))
carries-token (Sixel bits) is = carries-byte (63 + bits) (grind (arith, nat_tests))
carries-token (Repeat t) is = carries-digits t is
carries-token (Raster t) is = carries-parameters t is
carries-token (Color t) is = carries-parameters t is
carries-token Return is = refl
carries-token Newline is = refl
carries-token (Skip b) is = carries-byte b (grind (arith, nat_tests))

-- all bytes of a history carry meaning
carries-spellings : (h : History) → AreTokens h → IsTrue (list_all carries (spellings h))
carries-spellings [] are = refl
carries-spellings (token ∷ older) are =
    grind (arith, nat_tests, common_steps, carries-token, carries-spellings older are.2)

-- what carries meaning goes on up to the terminator
pub before_terminator-carrying : (bytes rest : List ℕ) → IsTrue (list_all carries bytes)
    → before_terminator (bytes ++ 27 ∷ rest) ≡ bytes
before_terminator-carrying [] rest all = refl
before_terminator-carrying (b ∷ bytes) rest all =
    grind (arith, common_steps, before_terminator-carrying bytes rest)

-- and none of it is ignored
carrying-all : (bytes : List ℕ) → IsTrue (list_all carries bytes) → carrying bytes ≡ bytes
carrying-all [] all = refl
carrying-all (b ∷ bytes) all = grind (arith, common_steps, carrying-all bytes)

-- the terminator after it is the first
pub first_terminator-carrying : (bytes rest : List ℕ) → IsTrue (list_all carries bytes)
    → first_terminator (bytes ++ 27 ∷ rest) ≡ Some 27
first_terminator-carrying [] rest all = refl
first_terminator-carrying (b ∷ bytes) rest all =
    grind (arith, common_steps, first_terminator-carrying bytes rest)

-- what follows that terminator
pub after_terminator-carrying : (bytes rest : List ℕ) → IsTrue (list_all carries bytes)
    → after_terminator (bytes ++ 27 ∷ rest) ≡ rest
after_terminator-carrying [] rest all = refl
after_terminator-carrying (b ∷ bytes) rest all =
    grind (arith, common_steps, after_terminator-carrying bytes rest)

-- bytes that carry meaning are their own front, up to the terminator
pub front-carrying : (bytes rest : List ℕ) → IsTrue (list_all carries bytes)
    → front (bytes ++ 27 ∷ rest) ≡ bytes
front-carrying bytes rest all = grind (arith, nat_tests, before_terminator-carrying, carrying-all)

module _ (drawing : Drawing) (definitions : List Definition) (marks : List Mark)
    (is : IsWritable drawing) (draws : Draws drawing definitions marks) where
  -- all tokens of the text
  AreTokens-tokens : AreTokens (tokens drawing definitions marks)
  AreTokens-tokens =
      AreTokens-marks drawing first_pen marks (with_palette drawing definitions) draws.allowed
      (AreTokens-definitions drawing definitions (raster_of drawing ∷ []) is draws.defined
      (token-more (raster_of drawing) [] (all_parameters-numbers (pad_of drawing.aspect_ratio)
      (sizes drawing) (omega (arith, pad-small drawing.aspect_ratio)) (AreFields-sizes drawing is))
      refl tt))

  -- ---- the payload

  -- all bytes of the payload carry meaning
  pub carries-payload : IsTrue (list_all carries (marks_payload drawing definitions marks))
  carries-payload =
      rw spellings-tokens at (carries-spellings (tokens drawing definitions marks) AreTokens-tokens)

  -- the history of the payload is its tokens
  pub payload-read : (rest : List ℕ)
      → history_of (front (marks_payload drawing definitions marks ++ 27 ∷ rest))
      ≡ tokens drawing definitions marks
  payload-read rest =
      let payload : List ℕ = marks_payload drawing definitions marks in
      let whole : IsHistory payload (tokens drawing definitions marks) =
      grind (arith, nat_tests, spellings-tokens, AreTokens-tokens) in
      rw (front-carrying payload rest carries-payload) (sym (history_unique payload _ whole))
