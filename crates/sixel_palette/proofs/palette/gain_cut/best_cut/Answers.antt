use Rattle.std.proofs.Common.{◌≡◌, ℕ, ◌+◌, ◌<◌, length, ap, sym, ◌∙◌, arith, List, ◌-◌, get_or}
use Rattle.std.proofs.lemmas.List.Sums.{sum_by_more_le}
use Rattle.sixel_palette.specs.declared.palette.color_sums.ColorSums.{ColorSums}
use Rattle.sixel_palette.specs.declared.{palette.gain_cut.Cut.Cut, palette.gain_cut.Sides.Sides}
use Rattle.sixel_palette.specs.GainCut.{best_to, better, gain}
use Rattle.sixel_palette.specs.inside.{Boxes.AreGains, Sums.{prefix_sums, suffix_sums, total}}
use Rattle.sixel_palette.proofs.refinement.Cuts.{best_to-more, best_to-same, better-kept}
use Rattle.sixel_palette.proofs.refinement.Cuts.{better-taken, gain-same, prefix-more}
use Rattle.sixel_palette.proofs.palette.gain_cut.best_cut.Goals as goal

pub loop-position-init : goal.loop-position-init
unfolding best_to
loop-position-init c = record {
  left = λ k. c.none-left.ensures.sums k;
  best = λ gains are.
      let place : c.args.sides.low + 0 ≡ c.args.sides.low = omega arith in
      rw place
      (sym (best_to-same gains c.args.channel 0 c.args.sides.low c.args.cut (omega arith)
      (λ value l m. are.before value m)));
}

-- the gain at a value is that of the sums up to it and above it
gained : (lower upper : List ColorSums) (sides : Sides) (gains : ℕ → ℕ) (n : ℕ)
    (left right : ColorSums) → AreGains lower sides gains → n < sides.high - sides.low
    → ((k : ℕ) → total left k ≡ prefix_sums lower (n + 1) k)
    → ((k : ℕ) → total (get_or upper n right) k ≡ suffix_sums lower (n + 1) k)
    → right ≡ get_or upper n right → gain (total left) (total right) ≡ gains (sides.low + n)
gained lower upper sides gains n left right are l front back own =
    gain-same _ _ _ _ front (λ k. ap (λ (x : ColorSums). total x k) own ∙ back k) ∙ sym (are.at n l)

pub loop-position-preserved : goal.loop-position-preserved
loop-position-preserved c =
    let lower = c.args.lower.now in
    let low = c.args.sides.low in
    let n = c.loop-position.position in
    let h = c.loop-position.invariant in
    let item = c.index-lower-position in
    let inside : n < length lower = omega (arith, c.requires.lower, c.loop-position-test.true) in
    let next : low + (n + 1) ≡ low + n + 1 = omega arith in
    let cut : ℕ → Cut = λ g. record { channel = c.args.channel; value = low + n; gain = g } in
    let left : (k : ℕ) → total c.plus-left.result k ≡ prefix_sums lower (n + 1) k = λ k.
    omega (
      arith,
      c.plus-left.ensures.sums k,
      h.left k,
      prefix-more lower n k item.result inside,
      ap (λ (y : ColorSums). total y k) item.is,
    ) in
    let more : (gains : ℕ → ℕ) → AreGains lower c.args.sides gains
    → best_to gains c.args.channel (low + (n + 1)) c.args.cut
    ≡ better c.loop-position.best (cut c.gain-gain.result) = λ gains are.
    let gain =
    c.gain-gain.ensures
    ∙ gained lower c.args.upper.now c.args.sides gains n c.plus-left.result
    c.index-upper-position.result are c.loop-position-test.true left
    (λ k. c.requires.sums n k _ inside) c.index-upper-position.is in
    rw next (best_to-more gains c.args.channel (low + n) c.args.cut
    ∙ (λ i. better (sym (h.best gains are) i) (cut (sym gain i)))) in
    elim c.if-best-gain.branch [
      | goal.then-best-gain w ↦
          rw w.best-is (record {
            left = left;
            best = λ gains are. sym (more gains are ∙ better-taken _ _ w.if-best-gain.true);
          })
      | goal.else-best-gain w ↦
          rw w.best-is (record {
            left = left;
            best = λ gains are. sym (more gains are ∙ better-kept _ _ w.if-best-gain.false);
          })
    ]

pub plus-left-requires : goal.plus-left-requires
plus-left-requires c = grind (arith, c.loop-position.invariant.left 0, sum_by_more_le)
