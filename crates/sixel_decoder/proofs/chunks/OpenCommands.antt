-- How a parser stands once it has opened a command with the digits after it.
use Rattle.std.proofs.Common.{◌≡◌, ℕ, suc, ◌+◌, ◌<◌, ◌≤◌, ◌⊎◌, Bool, true, false, List, [], ◌∷◌}
use Rattle.std.proofs.Common.{length, get_or, take, drop, get_or-take, length-take, refl, inl, inr}
use Rattle.std.{proofs.Common.{◌∙◌, arith}, proofs.lemmas.Bool.Decides.nat_tests}
use Rattle.std.{specs.List.list_all, specs.Prelude.{IsTrue, fold}}
use Rattle.sixel_base.{proofs.Histories.fold-spelling, specs.Bytes.{is_digit, is_parameter}}
use Rattle.sixel_base.specs.{History.{Token, Repeat, Color, History, goes_on, read}, Stroke.Origin}
use Rattle.sixel_base.specs.inside.Parameters.{IsDigit, Keeps}
use Rattle.sixel_canvas.specs.declared.drawing.Canvas.{Ghosts}
use Rattle.sixel_decoder.specs.declared.payload_parser.OpenCommand.TheVariants.{InRepeat, InColor}
use Rattle.sixel_decoder.specs.declared.payload_parser.PayloadParser.{PayloadParser}
use Rattle.sixel_decoder.specs.inside.{Lenient.HasDrawn, PayloadParser.{IsOpen, Stands}}

abbrev pub AreDigits : List ℕ → Type 0
AreDigits bytes = (k : ℕ) → k < length bytes → IsDigit (get_or bytes k 0)

-- no token goes on with a repeat or color introducer
pub goes_on_numbered : (h : History) (byte : ℕ) → (byte ≡ 33) ⊎ (byte ≡ 35) → goes_on h byte ≡ false
goes_on_numbered h byte e = grind (arith, nat_tests)

-- a test that all digits pass
all_pass : (test : ℕ → Bool) → ((byte : ℕ) → IsDigit byte → test byte ≡ true) → (bytes : List ℕ)
    → AreDigits bytes → IsTrue (list_all test bytes)
all_pass test passes [] are = refl
all_pass test passes (byte ∷ bytes) are =
    rw (passes byte (are 0 (omega arith)))
    (all_pass test passes bytes (λ k lt. are (suc k) (omega arith)))

AreDigits-take : (n : ℕ) (bytes : List ℕ) → n ≤ length bytes
    → ((k : ℕ) → k < n → IsDigit (get_or bytes k 0)) → AreDigits (take n bytes)
AreDigits-take n bytes le are k lt = grind (arith, nat_tests, get_or-take, length-take)

-- the byte at the front, and the digits after it
fold_front : (h : History) (bytes : List ℕ) (first n : ℕ) → 0 < length bytes
    → get_or bytes 0 0 ≡ first
    → fold read h (take (n + 1) bytes) ≡ fold read h (first ∷ take n (drop 1 bytes))
fold_front h [] first n some is = absurd (omega arith)
fold_front h (byte ∷ bytes) first n some is =
    let more : n + 1 ≡ suc n = omega arith in rw (more, is) refl

module _ {C : Type 0} {canvas : Ghosts C} (o : Origin) (new : PayloadParser C canvas)
    (h : History) (bytes : List ℕ) (n : ℕ)
    (some : 0 < length bytes) (le : n ≤ length (drop 1 bytes))
    (are : (k : ℕ) → k < n → IsDigit (get_or (drop 1 bytes) k 0))
    (keeps : Keeps new.parameters (take n (drop 1 bytes)))
    (shows : HasDrawn o new.painter new.ignored h) where
  opened : (command : List ℕ → Token) (first : ℕ) → get_or bytes 0 0 ≡ first
      → fold read h (first ∷ take n (drop 1 bytes)) ≡ command (take n (drop 1 bytes)) ∷ h
      → IsOpen command o new (fold read h (take (n + 1) bytes))
  opened command first is newest = record {
    text = take n (drop 1 bytes);
    older = h;
    newest = fold_front h bytes first n some is ∙ newest;
    keeps = keeps;
    shows = shows;
  }

  digits : AreDigits (take n (drop 1 bytes))
  digits = AreDigits-take n (drop 1 bytes) le are

  pub Stands-repeat : get_or bytes 0 0 ≡ 33 → new.command ≡ InRepeat
      → Stands o new (fold read h (take (n + 1) bytes))
  Stands-repeat is command =
      let text : List ℕ = take n (drop 1 bytes) in
      let all = all_pass is_digit (λ b d. grind (arith, nat_tests)) text digits in
      let is_open = opened Repeat 33 is
      (fold-spelling h (Repeat text) all (goes_on_numbered h 33 (inl refl))) in
      grind arith

  pub Stands-color : get_or bytes 0 0 ≡ 35 → new.command ≡ InColor
      → Stands o new (fold read h (take (n + 1) bytes))
  Stands-color is command =
      let text : List ℕ = take n (drop 1 bytes) in
      let all = all_pass is_parameter (λ b d. grind (arith, nat_tests)) text digits in
      let is_open = opened Color 35 is
      (fold-spelling h (Color text) all (goes_on_numbered h 35 (inr refl))) in
      grind arith
