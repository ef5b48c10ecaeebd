-- The stage of a DCS sequence after further bytes.
use Rattle.std.proofs.Common.{◌≡◌, ℕ, true, false, cond, List, [], ◌∷◌, ◌++◌, refl, ap, sym, ◌∙◌}
use Rattle.std.proofs.{Common.{subst, arith}, lemmas.Bool.Decides.nat_tests, lemmas.List.append-nil}
use Rattle.std.specs.Prelude.{IsSomeAnd}
use Rattle.sixel_base.specs.{Bytes.carrying, Dcs.{Entered, introduced, Stage, Reading, stage_after}}
use Rattle.sixel_base.specs.{Dcs.stage, Fault.IsFault, Header.{headed_by, is_header, header_front}}
use Rattle.sixel_base.specs.Header.{header_rest, header_text, settings_of, command_fault}
use Rattle.sixel_base.specs.{declared.error.SixelError.SixelError, inside.Parameters.Keeps}
use Rattle.sixel_decoder.specs.inside.DcsState.{IsInHeader, IsStageFault}
use Rattle.sixel_decoder.proofs.chunks.Joined.{carrying-append}
use Rattle.sixel_decoder.specs.declared.header.Header as headers

-- ---- a header goes on

-- where the header has not ended, the bytes after it are read on
pub header_rest-open : (rest more : List ℕ) → header_rest rest ≡ []
    → header_rest (rest ++ more) ≡ header_rest more
header_rest-open [] more going = refl
header_rest-open (byte ∷ rest) more going = grind (arith, nat_tests, header_rest-open rest more)

header_front-open : (rest more : List ℕ) → header_rest rest ≡ []
    → header_front (rest ++ more) ≡ header_front rest ++ header_front more
header_front-open [] more going = refl
header_front-open (byte ∷ rest) more going = grind (arith, nat_tests, header_front-open rest more)

pub header_text-open : (rest more : List ℕ) → header_rest rest ≡ []
    → header_text (rest ++ more) ≡ header_text rest ++ header_text more
header_text-open rest more going = grind (arith, nat_tests, header_front-open, carrying-append)

-- ---- a header has ended

pub header_rest-ended : (rest more tail : List ℕ) (byte : ℕ) → header_rest rest ≡ byte ∷ tail
    → header_rest (rest ++ more) ≡ byte ∷ (tail ++ more)
header_rest-ended [] more tail byte ended = absurd cc
header_rest-ended (b ∷ rest) more tail byte ended =
    grind (arith, nat_tests, header_rest-ended rest more tail byte)

pub header_front-ended : (rest more tail : List ℕ) (byte : ℕ) → header_rest rest ≡ byte ∷ tail
    → header_front (rest ++ more) ≡ header_front rest
header_front-ended [] more tail byte ended = absurd cc
header_front-ended (b ∷ rest) more tail byte ended =
    grind (arith, nat_tests, header_front-ended rest more tail byte)

-- ---- stages

pub introduced-entered : (bytes rest more : List ℕ) → introduced bytes ≡ Entered rest
    → introduced (bytes ++ more) ≡ Entered (rest ++ more)
introduced-entered bytes rest more is = grind (arith, nat_tests)

-- ---- a byte more of the header

pub header_rest-one : (byte : ℕ) → is_header byte ≡ true → header_rest (byte ∷ []) ≡ []
header_rest-one byte is = ap (λ t. cond t [] (byte ∷ [])) is

header_rest-other : (byte : ℕ) → is_header byte ≡ false → header_rest (byte ∷ []) ≡ byte ∷ []
header_rest-other byte is = ap (λ t. cond t [] (byte ∷ [])) is

pub header_text-one : (byte : ℕ) → is_header byte ≡ true
    → header_text (byte ∷ []) ≡ carrying (byte ∷ [])
header_text-one byte is = ap (λ t. carrying (cond t (byte ∷ []) [])) is

header_text-other : (byte : ℕ) → is_header byte ≡ false → header_text (byte ∷ []) ≡ []
header_text-other byte is = ap (λ t. carrying (cond t (byte ∷ []) [])) is

pub header_goes_on :
    (header header' : headers.Header) (before : List ℕ) (byte : ℕ) (h : IsInHeader header before)
    → is_header byte ≡ true
    → Keeps header'.parameters (header_text h.rest ++ carrying (byte ∷ []))
    → IsInHeader header' (before ++ byte ∷ [])
header_goes_on header header' before byte h is keeps = record {
  rest = h.rest ++ byte ∷ [];
  entered = introduced-entered before h.rest (byte ∷ []) h.entered;
  going = header_rest-open h.rest (byte ∷ []) h.going ∙ header_rest-one byte is;
  keeps = subst (λ (w : List ℕ). Keeps header'.parameters w)
      (sym (header_text-open h.rest (byte ∷ []) h.going
      ∙ ap (λ w. header_text h.rest ++ w) (header_text-one byte is))) keeps;
}

-- what stands after a byte that is not the header's
stage_other : (header : headers.Header) (before : List ℕ) (byte : ℕ) (h : IsInHeader header before)
    → is_header byte ≡ false
    → stage (before ++ byte ∷ []) ≡ stage_after (h.rest ++ byte ∷ []) (headed_by (byte ∷ []))
stage_other header before byte h is =
    grind (arith, nat_tests, introduced-entered, header_rest-open, header_rest-other)

-- its `q` begins the payload
pub header_begins :
    (header : headers.Header) (before : List ℕ) (byte : ℕ) (h : IsInHeader header before)
    → is_header byte ≡ false → byte ≡ 113
    → stage (before ++ byte ∷ []) ≡ Reading (settings_of (header_text h.rest)) []
header_begins header before byte h is q =
    stage_other header before byte h is
    ∙ (ap (λ b. stage_after (h.rest ++ byte ∷ []) (headed_by (b ∷ []))) q
    ∙ ap
    (λ w. Reading (settings_of w) [])
    (header_text-open h.rest (byte ∷ []) h.going
    ∙ (ap (λ w. header_text h.rest ++ w) (header_text-other byte is)
    ∙ append-nil (header_text h.rest))))

refused_stage : (e : SixelError) (rest : List ℕ) (byte : ℕ)
    → IsSomeAnd (command_fault byte) (IsFault e)
    → IsStageFault e (stage_after rest (headed_by (byte ∷ [])))
refused_stage e rest byte fault = grind (arith, nat_tests)

-- any other byte is rejected
pub header_refuses : (e : SixelError) (header : headers.Header) (before : List ℕ) (byte : ℕ)
    (h : IsInHeader header before) → is_header byte ≡ false
    → IsSomeAnd (command_fault byte) (IsFault e) → IsStageFault e (stage (before ++ byte ∷ []))
header_refuses e header before byte h is fault =
    subst (λ (w : Stage). IsStageFault e w)
    (sym (stage_other header before byte h is)) (refused_stage e (h.rest ++ byte ∷ []) byte fault)
