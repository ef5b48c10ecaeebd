-- The plain text of a drawing as definitions and marks that draw it: each entry is defined in the
-- register of its number, each row returns to the left, and each band goes down to the next.
use Rattle.std.proofs.Common.{List, append_assoc, cond, length, ℕ, ◌++◌, ◌∷◌, ◌≡◌, arith, [], None}
use Rattle.std.proofs.Common.{Some, refl, suc, true, zero, ◌*◌, ◌+◌, ◌<◌, ◌≤◌}
use Rattle.std.proofs.lemmas.{Bool.{cases_Bool, cases_eq}, Bool.Decides.nat_tests}
use Rattle.std.proofs.lemmas.{Grind.flat_map-append, List.{append-nil, get_or_past}}
use Rattle.std.specs.Prelude.{Option, slice_index_or, ◌==◌}
use Rattle.sixel_base.specs.Picture.{joined}
use Rattle.sixel_encoder.specs.Marks.{Back, Definition, Draw, Mark, Next, Pick, marks_payload}
use Rattle.sixel_encoder.specs.Marks.{AreDefinitions, Draws, Pen, first_pen, register_entry}
use Rattle.sixel_encoder.specs.{Text.{Drawing, bands, has_dot, row_of, entry_at}, Trip.payload_text}
use Rattle.sixel_encoder.specs.Trip.{IsWritable}
use Rattle.sixel_encoder.proofs.JoinedLists.{flat_map-joined}
use Rattle.sixel_encoder.proofs.round_trip.MarkSteps.{Leads, Leads-append, Leads-joined, Places}
use Rattle.sixel_encoder.proofs.round_trip.{MarkSteps.painted-place, UsedBands.unused-dots}
use Rattle.sixel_encoder.proofs.band_rows.EntryRows.{IsInBand, length-row_of, lit-own, no_dot-own}
use Rattle.sixel_encoder.proofs.band_rows.EntryRows.{own-lit, row_of-small}

-- ---- the marks

-- an entry that is used in the band: its register, its row, and back to the left
abbrev pub plain_entry : Drawing → ℕ → ℕ → List Mark
plain_entry drawing band entry =
    cond (has_dot (row_of drawing band entry))
    (Pick entry ∷ Draw (row_of drawing band entry) ∷ Back ∷ []) []

-- the entries of a band, and down to the next
abbrev pub plain_band : Drawing → ℕ → List Mark
plain_band drawing band = joined (plain_entry drawing band) (length drawing.colors) ++ Next ∷ []

-- all bands
abbrev pub plain_marks : Drawing → List Mark
plain_marks drawing = joined (plain_band drawing) (bands drawing.height)

-- an entry is defined in the register of its number
abbrev pub plain_definition : ℕ → List Definition
plain_definition entry = record { register = entry; entry = entry } ∷ []

-- all entries
abbrev pub plain_definitions : Drawing → List Definition
plain_definitions drawing = joined plain_definition (length drawing.colors)

-- ---- their text

-- the bytes of a row in one order of joining
row-joined : (d w : List ℕ)
    → (35 ∷ d) ++ (w ++ ((36 ∷ []) ++ [])) ≡ (35 ∷ []) ++ d ++ w ++ (36 ∷ [])
row-joined d w = simp append_assoc

-- together they have the data of the plain text
pub payload-plain : (drawing : Drawing)
    → marks_payload drawing (plain_definitions drawing) (plain_marks drawing) ≡ payload_text drawing
payload-plain drawing = grind (arith, flat_map-joined, append-nil, flat_map-append, row-joined)

-- an entry that a place has is one of the drawing's
pub known_place : (drawing : Drawing) (place entry : ℕ) → IsWritable drawing
    → slice_index_or drawing.entries place None ≡ Some entry → entry < length drawing.colors
known_place drawing place entry is e = grind (arith, nat_tests, get_or_past)

-- The pen is at the left of a band. No transparent pixel is set. The pixels of the bands above and,
-- in this band, of the entries before this one are drawn in their own registers.
record IsDrawnTo (drawing : Drawing) (band entry : ℕ) (pen : Pen) (place : Places) : Type 0 where
  left : pen.column ≡ 0
  level : pen.band ≡ band
  transparent : (column line : ℕ) → column < drawing.width → entry_at drawing column line ≡ None
      → place column line ≡ None
  above : (column line other : ℕ) → column < drawing.width → line < 6 * band
      → entry_at drawing column line ≡ Some other → place column line ≡ Some other
  drawn : (column line other : ℕ) → column < drawing.width → IsInBand band line
      → entry_at drawing column line ≡ Some other → other < entry → place column line ≡ Some other

module _ (drawing : Drawing) (band entry : ℕ) (pen : Pen) (place : Places) (small : entry < 256)
    (lower : band < bands drawing.height) (at : IsDrawnTo drawing band entry pen place) where
  -- the row of an entry leads to the next entry
  Leads-row : has_dot (row_of drawing band entry) ≡ true
      → Leads drawing (IsDrawnTo drawing band (entry + 1)) pen place
      (Pick entry ∷ Draw (row_of drawing band entry) ∷ Back ∷ [])
  Leads-row dot =
      grind (arith, nat_tests, row_of-small, length-row_of, lit-own, own-lit, unused-dots)

  -- so does an entry, with a row or without
  Leads-entry :
      Leads drawing (IsDrawnTo drawing band (entry + 1)) pen place (plain_entry drawing band entry)
  Leads-entry =
      let which = cases_Bool (has_dot (row_of drawing band entry)) in
      grind (arith, nat_tests, Leads-row, no_dot-own)

-- a band leads to the next band
Leads-band : (drawing : Drawing) (band : ℕ) (pen : Pen) (place : Places) → IsWritable drawing
    → band < bands drawing.height → IsDrawnTo drawing band 0 pen place
    → Leads drawing (IsDrawnTo drawing (band + 1) 0) pen place (plain_band drawing band)
Leads-band drawing band pen place is lower at =
    let first =
    Leads-joined drawing (IsDrawnTo drawing band) (plain_entry drawing band) (length drawing.colors)
    (λ k p d l is_at. Leads-entry drawing band k p d (omega arith) lower is_at) pen place at in
    Leads-append _ _ _ _ _ _ _ first (grind (arith, nat_tests, known_place))

-- the entry of a register after definitions, and then more
pub register_entry-append : (a b : List Definition) (before : Option ℕ) (register : ℕ)
    → register_entry (a ++ b) before register
    ≡ register_entry b (register_entry a before register) register
register_entry-append [] b before register = refl
register_entry-append (definition ∷ a) b before register =
    register_entry-append a b
    (cond (definition.register == register) (Some definition.entry) before) register

-- each register has the entry of its number
pub register_entry-plain : (n entry : ℕ) → entry < n
    → register_entry (joined plain_definition n) None entry ≡ Some entry
unfolding joined
register_entry-plain zero entry l = absurd (omega arith)
register_entry-plain (suc n) entry l =
    let rest = register_entry-plain n entry in
    let step = register_entry-append (joined plain_definition n) (plain_definition n) None entry in
    grind (arith, nat_tests, cases_eq entry n)

-- definitions, and then more
pub AreDefinitions-append : (drawing : Drawing) (a b : List Definition) → AreDefinitions drawing a
    → AreDefinitions drawing b → AreDefinitions drawing (a ++ b)
AreDefinitions-append drawing [] b first then = then
AreDefinitions-append drawing (definition ∷ a) b first then =
    grind (arith, nat_tests, AreDefinitions-append drawing a b first.1 then)

-- there is a register for each entry
AreDefinitions-plain : (drawing : Drawing) (n : ℕ) → length drawing.colors ≤ 256
    → n ≤ length drawing.colors → AreDefinitions drawing (joined plain_definition n)
unfolding joined
AreDefinitions-plain drawing zero few l = tt
AreDefinitions-plain drawing (suc n) few l =
    AreDefinitions-append drawing (joined plain_definition n) (plain_definition n)
    (AreDefinitions-plain drawing n few (omega arith)) ((omega arith, omega arith), tt)

-- the registers before the first mark
abbrev pub nothing_drawn : Places
nothing_drawn column line = None

-- the plain definitions and marks draw the drawing
pub Draws-plain : (drawing : Drawing) → IsWritable drawing
    → Draws drawing (plain_definitions drawing) (plain_marks drawing)
Draws-plain drawing is =
    let leads : Leads drawing (IsDrawnTo drawing (bands drawing.height) 0) first_pen nothing_drawn
    (plain_marks drawing) =
    Leads-joined drawing (λ band. IsDrawnTo drawing band 0) (plain_band drawing)
    (bands drawing.height) (λ k p d l at. Leads-band drawing k p d is l at) first_pen
    nothing_drawn (grind (arith, nat_tests)) in
    let drawn = painted-place (plain_marks drawing) first_pen nothing_drawn in
    let entry = register_entry-plain (length drawing.colors) in
    let defined = AreDefinitions-plain drawing (length drawing.colors) is.few (omega arith) in
    grind (arith, nat_tests, known_place)
