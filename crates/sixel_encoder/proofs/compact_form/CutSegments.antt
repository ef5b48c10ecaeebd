-- The segments that a band is cut into, pixel by pixel: those of one entry are a gap apart.
use Rattle.std.proofs.Common.{Some, List, arith, refl, ℕ, ◌+◌, ◌<◌, ◌∙◌, ◌∷◌, ◌≡◌, ◌≤◌, []}
use Rattle.std.proofs.lemmas.Bool.Decides.{nat_tests}
use Rattle.sixel_encoder.specs.{Segments.with_pixel, declared.segments.Segment.Segment}
use Rattle.sixel_encoder.proofs.compact_form.SegmentTallies.{is_of, tally}

-- ---- segments that are cut at gaps

-- the segments of the same entry begin at least a gap after this one
abbrev pub AreAfter : ℕ → Segment → List Segment → Type 0
AreAfter gap segment [] = Unit {0}
AreAfter gap segment (other ∷ others) =
    (other.entry ≡ segment.entry → segment.end + gap ≤ other.first)
    × AreAfter gap segment others

-- Each segment has one of the entries and a column, and ends by this one. Those of one entry are a
-- gap apart.
abbrev pub AreCut : ℕ → ℕ → ℕ → List Segment → Type 0
AreCut gap entries bound [] = Unit {0}
AreCut gap entries bound (segment ∷ segments) =
    (segment.entry < entries) × (segment.first < segment.end) × (segment.end ≤ bound)
    × AreAfter gap segment segments × AreCut gap entries bound segments

-- they end by a greater column, too
pub AreCut-wider : (gap entries bound wider : ℕ) (segments : List Segment) → bound ≤ wider
    → AreCut gap entries bound segments → AreCut gap entries wider segments
AreCut-wider gap entries bound wider [] l are = tt
AreCut-wider gap entries bound wider (segment ∷ segments) l are =
    grind (arith, nat_tests, AreCut-wider gap entries bound wider segments l are.4)

-- Past a segment that is near there is none of its entry.
pub AreAfter-near :
    (gap entries bound column : ℕ) (segment longer : Segment) (segments : List Segment)
    → longer.entry ≡ segment.entry → column < segment.end + gap → bound ≤ column + 1
    → AreAfter gap segment segments → AreCut gap entries bound segments
    → AreAfter gap longer segments
AreAfter-near gap entries bound column segment longer [] same near l after are = tt
AreAfter-near gap entries bound column segment longer (other ∷ others) same near l after are = (
  λ e. absurd (omega (arith, after.0 (e ∙ same), are.1, are.2)),
  AreAfter-near gap entries bound column segment longer others same near l after.1 are.4,
)

-- a pixel's own segment begins a gap after this one, too
pub AreAfter-pixel : (gap column entry : ℕ) (segment : Segment) (segments : List Segment)
    → (entry ≡ segment.entry → segment.end + gap ≤ column) → AreAfter gap segment segments
    → AreAfter gap segment (with_pixel gap column entry segments)
AreAfter-pixel gap column entry segment [] new after = (new, tt)
AreAfter-pixel gap column entry segment (other ∷ others) new after =
    grind (arith, nat_tests, AreAfter-pixel gap column entry segment others new after.1)

-- one more pixel keeps them cut
pub AreCut-pixel : (gap entries bound column entry : ℕ) (segments : List Segment)
    → bound ≤ column + 1 → entry < entries → AreCut gap entries bound segments
    → AreCut gap entries (column + 1) (with_pixel gap column entry segments)
AreCut-pixel gap entries bound column entry [] l known are = grind (arith, nat_tests)
AreCut-pixel gap entries bound column entry (segment ∷ segments) l known are =
    let rest = AreCut-pixel gap entries bound column entry segments l known are.4 in
    grind (arith, nat_tests, AreAfter-near, AreCut-wider, AreAfter-pixel)

-- ---- what their pixels are

-- no segment after this one has a column of it
pub none-after : (gap x entry : ℕ) (segment : Segment) (segments : List Segment) → x < segment.end
    → segment.entry ≡ entry → AreAfter gap segment segments
    → tally (is_of x (Some entry)) segments ≡ 0
none-after gap x entry segment [] l same after = refl
none-after gap x entry segment (other ∷ others) l same after =
    grind (arith, nat_tests, none-after gap x entry segment others l same after.1)

-- so a pixel is in at most one segment
pub few-cut : (gap entries bound x entry : ℕ) (segments : List Segment)
    → AreCut gap entries bound segments → tally (is_of x (Some entry)) segments ≤ 1
few-cut gap entries bound x entry [] are = omega arith
few-cut gap entries bound x entry (segment ∷ segments) are =
    grind (arith, nat_tests, none-after, few-cut gap entries bound x entry segments are.4)

-- one more pixel takes none away
pub tally-pixel : (gap entries bound column entry x e : ℕ) (segments : List Segment)
    → bound ≤ column + 1 → AreCut gap entries bound segments
    → tally (is_of x (Some e)) segments
    ≤ tally (is_of x (Some e)) (with_pixel gap column entry segments)
tally-pixel gap entries bound column entry x e [] l are = omega arith
tally-pixel gap entries bound column entry x e (segment ∷ segments) l are =
    grind (arith, nat_tests, tally-pixel gap entries bound column entry x e segments l are.4)

-- and adds its own
pub own-pixel : (gap entries bound column entry : ℕ) (segments : List Segment)
    → bound ≤ column + 1 → AreCut gap entries bound segments
    → 1 ≤ tally (is_of column (Some entry)) (with_pixel gap column entry segments)
own-pixel gap entries bound column entry [] l are = grind (arith, nat_tests)
own-pixel gap entries bound column entry (segment ∷ segments) l are =
    grind (arith, nat_tests, own-pixel gap entries bound column entry segments l are.4)
