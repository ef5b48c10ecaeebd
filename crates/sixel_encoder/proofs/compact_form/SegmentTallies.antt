-- How many segments pass a test, pass by pass.
use Rattle.std.specs.Prelude.{Option, nat_le, ◌&&◌}
use Rattle.std.proofs.Common.{nat_lt, Bool, List, arith, cond, length, not, refl, suc, true, zero}
use Rattle.std.proofs.{Common.{ℕ, ◌++◌, ◌+◌, ◌<◌, ◌∷◌, ◌≡◌, []}, lemmas.Bool.Decides.nat_tests}
use Rattle.sixel_encoder.specs.Segments.{after_pass, band_segments, drawn_segments, in_pass, passes}
use Rattle.sixel_encoder.specs.{Text.{Drawing, is_entry}, declared.segments.Segment.Segment}
use Rattle.sixel_encoder.specs.inside.Compact.{nth}

-- whether a pixel in this column with this entry is one of the segment's
abbrev pub is_of : ℕ → Option ℕ → Segment → Bool
is_of column place segment =
    is_entry segment.entry place && (nat_le segment.first column && nat_lt column segment.end)

-- ---- how many segments pass a test

-- one for a test that passes
abbrev pub one : Bool → ℕ
one test = cond test 1 0

-- how many of some segments pass
abbrev pub tally : (Segment → Bool) → List Segment → ℕ
tally test [] = 0
tally test (segment ∷ segments) = one (test segment) + tally test segments

-- of two lists
pub tally-append : (test : Segment → Bool) (a b : List Segment)
    → tally test (a ++ b) ≡ tally test a + tally test b
tally-append test [] b = omega arith
tally-append test (segment ∷ a) b = omega (arith, tally-append test a b)

-- a pass draws some and leaves the others
pub tally-pass : (test : Segment → Bool) (column : ℕ) (segments : List Segment)
    → tally test (in_pass column segments) + tally test (after_pass column segments)
    ≡ tally test segments
tally-pass test column [] = refl
tally-pass test column (segment ∷ segments) =
    grind (arith, nat_tests, tally-pass test segment.end segments, tally-pass test column segments)

-- all passes have the segments
pub tally-passes : (test : Segment → Bool) (n : ℕ) (segments : List Segment)
    → tally test (passes n segments) ≡ tally test segments
unfolding passes
tally-passes test zero segments = refl
tally-passes test (suc n) segments =
    grind (arith, nat_tests, tally-append, tally-pass, tally-passes test n (after_pass 0 segments))

-- so have the segments in the order in which they are drawn
pub tally-drawn : (test : Segment → Bool) (drawing : Drawing) (band : ℕ)
    → tally test (drawn_segments drawing band) ≡ tally test (band_segments drawing band)
tally-drawn test drawing band = grind (arith, nat_tests, tally-passes)

-- if none fails each passes
pub each-tally : (test : Segment → Bool) (segments : List Segment)
    → tally (λ s. not (test s)) segments ≡ 0 → (k : ℕ) → k < length segments
    → test (nth segments k) ≡ true
each-tally test [] none k l = absurd (omega arith)
each-tally test (segment ∷ segments) none zero l = grind (arith, nat_tests, one, none, tally)
each-tally test (segment ∷ segments) none (suc k) l =
    each-tally test segments (omega (arith, none)) k (omega (arith, l))
