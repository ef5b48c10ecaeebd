use Rattle.std.proofs.Common.{◌≡◌, ◌+◌, ◌-◌, ◌<◌, ℕ, length, take, drop, get_or, replicate, refl}
use Rattle.std.proofs.{Common.{ap, cond, nat_lt, sym, ◌∙◌, arith}, lemmas.Simd.length-chunk}
use Rattle.std.proofs.lemmas.Simd.{get_or-chunk, length-replicate, get_or-replicate}
use Rattle.sixel_palette.specs.{Palette.distance, inside.Codes.color_of}
use Rattle.sixel_palette.proofs.traversal.Lanes.{length-chosen, length-smaller, stored_outside}
use Rattle.sixel_palette.proofs.traversal.Lanes.{length-narrow, stored_at, mask_each, least_at}
use Rattle.sixel_palette.proofs.traversal.Lanes.{narrow_chosen, near_stored, stored_here}
use Rattle.sixel_palette.proofs.palette.relaxation.relax_lanes.Goals as goal

pub overflow_cast-own : goal.overflow_cast-own
overflow_cast-own c = mask_each _ _ _ _ (omega arith) (omega arith)

far : (c : goal.After-row_known-1) → length c.distances_of_eight-distances.result ≡ 8
far c = omega arith

was : (c : goal.After-row_known-1) → length (take 8 (drop c.args.at c.args.squares.now)) ≡ 8
was c =
    length-chunk c.args.at 8 c.args.squares.now
    (omega (arith, c.requires.within, c.requires.squares))

pub returns-clause-eight : goal.returns-clause-eight
returns-clause-eight c = length-chosen _ _ _ (length-smaller _ _ (far c) (was c)) (far c) (was c)

pub returns-clause-squares : goal.returns-clause-squares
returns-clause-squares c = λ k apart.
    stored_outside c.args.squares.now _ c.args.at k (returns-clause-eight c) apart

pub returns-clause-indices : goal.returns-clause-indices
returns-clause-indices c = λ k apart.
    stored_outside _ _ _ _
    (length-chosen _ _ _ (length-narrow _ _ _ _ _ (far c) (was c) (length-replicate {A = ℕ} 8 0))
    (length-replicate 8 c.args.entry.index)
    (length-chunk c.args.at 8 c.args.indices.now
    (omega (arith, c.requires.within, c.requires.indices)))) apart

pub returns-clause-lanes : goal.returns-clause-lanes
returns-clause-lanes c = λ j l.
    sym (stored_at c.args.squares.now _ c.args.at j
    (returns-clause-eight c) (omega (arith, c.requires.within, c.requires.squares)) l)

own : (c : goal.After-row_known-1) → length (take 8 (drop c.args.at c.args.indices.now)) ≡ 8
own c =
    length-chunk c.args.at 8 c.args.indices.now
    (omega (arith, c.requires.within, c.requires.indices))

pub returns-clause-near : goal.returns-clause-near
returns-clause-near c = λ entries k at from to near.
    let codes = c.args.codes.now in
    let squares = c.args.squares.now in
    let indices = c.args.indices.now in
    let ds = c.distances_of_eight-distances.result in
    let ss = take 8 (drop c.args.at squares) in
    let ys = take 8 (drop c.args.at indices) in
    let index = c.args.entry.index in
    let color = c.args.entry.color in
    let j = k - c.args.at in
    let small : j < 8 = omega (arith, from, to) in
    let place : c.args.at + j ≡ k = omega (arith, from) in
    let zeros = length-replicate {A = ℕ} 8 0 in
    let ours =
    length-chosen _ _ ys (length-narrow _ _ ds ss (replicate 8 0) (far c) (was c) zeros)
    (length-replicate 8 index) (own c) in
    let distance_is : get_or ds j 0 ≡ distance color (color_of (get_or codes k 0)) =
    rw place at (c.distances_of_eight-distances.ensures j small) in
    let old_square = rw place at (get_or-chunk c.args.at 8 squares j 0 small) in
    let old_index = rw place at (get_or-chunk c.args.at 8 indices j 0 small) in
    near_stored entries color (color_of (get_or codes k 0)) k (get_or ds j 0) (get_or ss j 0)
    (get_or ys j 0) index _ _
    (stored_here squares _ c.args.at k (returns-clause-eight c)
    (omega (arith, c.requires.within, c.requires.squares)) from to
    ∙ least_at ds ss j (far c) (was c) small)
    (stored_here indices _ c.args.at k ours
    (omega (arith, c.requires.within, c.requires.indices)) from to
    ∙ narrow_chosen _ _ ds ss (replicate 8 0) _ ys j (far c) (was c) zeros
    (length-replicate 8 index) (own c) (get_or-replicate 8 j 0 0 small) refl refl small
    ∙ ap (λ x. cond (nat_lt (get_or ds j 0) (get_or ss j 0)) x (get_or ys j 0))
    (get_or-replicate 8 j index 0 small))
    at (sym distance_is) (rw (old_square, old_index) near)
