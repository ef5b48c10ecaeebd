use Rattle.std.proofs.Common.{◌≡◌, ◌∙◌, ◌++◌, ◌||◌, ℕ, Bool, List, ap, arith, false, length, map}
use Rattle.std.proofs.{Common.{nat_eq, refl, sym, true}, Math.Bool.{or-false, or-true}}
use Rattle.std.proofs.{lemmas.Bool.{cond-false, cond-true}, lemmas.Bool.Decides.nat_tests}
use Rattle.std.proofs.{lemmas.List.{length-map, with_items_is}, lemmas.List.Elements.All-map}
use Rattle.sixel_palette.specs.{ColorSums.share, Lloyd.mean_bytes, Refined.IsRegisterColor}
use Rattle.sixel_palette.specs.Spread.{spread_color}
use Rattle.sixel_palette.specs.declared.palette.refined.RefinedEntries.{RefinedEntries}
use Rattle.sixel_palette.specs.inside.Refinement.{AreRefinedEntries, AreSpreadEntries}
use Rattle.sixel_palette.specs.inside.Sums.{counted_pixels}
use Rattle.sixel_palette.proofs.palette.refined.RefinedEntries.spread.Goals as goal
use goal.{then-amount-eq0-via-then-amount-eq0, then-amount-eq0-via-else-amount-eq0+then-self}

-- entries that stay
stay : (codes counts : List ℕ) (room amount : ℕ) (entries : RefinedEntries)
    → AreRefinedEntries codes counts room entries → (nat_eq amount 0 || entries.is_flat) ≡ true
    → AreSpreadEntries codes counts room amount entries
stay codes counts room amount entries are stays = record {
  refined = entries;
  are = are;
  none = λ zero. refl;
  spread =
      sym (cond-true _ _ _ (ap (λ (b : Bool). nat_eq amount 0 || b) (sym are.flat) ∙ stays));
  shown = are.shown;
  size = refl;
  same = are.same;
  squares = are.squares;
  nearest = are.nearest;
  error = are.error;
  opaque = are.opaque;
}

pub returns-then-amount-eq0 : goal.returns-then-amount-eq0
returns-then-amount-eq0 c = λ room are.
    let entries = c.args.self in
    let amount = c.args.amount in
    stay c.args.codes.now c.args.counts.now room amount entries are
    (elim c.then-amount-eq0.branch [
      | then-amount-eq0-via-then-amount-eq0 w ↦
          ap (λ (n : ℕ). nat_eq n 0 || entries.is_flat) w.if-amount-eq0.true
      | then-amount-eq0-via-else-amount-eq0+then-self w ↦
          ap (λ (b : Bool). nat_eq amount 0 || b) w.if-self.true ∙ or-true _
    ])

pub returns : goal.returns
returns c = λ room are.
    let entries = c.args.self in
    let spread = c.in_ok-assignment.assignment in
    let sum = (counted_pixels c.args.codes.now c.args.counts.now).sum in
    let f = spread_color c.args.amount (mean_bytes (λ k. sum (share k))) in
    let copied : c.deref_mut.result.now ≡ entries.colors.items =
    c.deref_mut.ensures.value ∙ c.in_ok-extend_from_slice.ensures.items
    ∙ (λ i. c.in_ok-spread.ensures.items i ++ c.deref.ensures.value i) in
    let mean : c.color_of-mean.result ≡ mean_bytes (λ k. sum (share k)) =
    c.color_of-mean.ensures ∙ c.mean_code.ensures.mean
    ∙ (λ i. mean_bytes (λ k. c.sums_of.ensures k i)) in
    let size =
    ap length c.spread_colors.ensures ∙ length-map _ _ ∙ c.deref_mut.ensures.len in
    let colors : spread.colors.items ≡ map f entries.colors.items =
    c.in_ok-assignment.ensures.colors ∙ c.deref-2.ensures.value
    ∙ with_items_is c.extend_from_slice.new.self c.spread_colors.new.colors size
    ∙ c.spread_colors.ensures
    ∙ (λ i. map (spread_color c.args.amount (mean i)) (copied i)) in
    let some : nat_eq c.args.amount 0 ≡ false =
    grind (arith, nat_tests, c.if-amount-eq0.false) in
    let moves =
    ap (λ (b : Bool). nat_eq c.args.amount 0 || b) (sym are.flat ∙ c.if-self.false)
    ∙ (or-false _ ∙ some) in
    record {
      refined = entries;
      are = are;
      none = λ zero. absurd (grind (arith, nat_tests, zero, c.if-amount-eq0.false));
      spread = colors ∙ sym (cond-false _ _ _ moves);
      shown =
          rw colors (All-map IsRegisterColor f entries.colors.items (λ k d l. (_, _, _, refl)));
      size = ap length colors ∙ length-map _ _;
      same = c.in_ok-assignment.ensures.assignment.whole.indices;
      squares = spread.traversal.squares.items;
      nearest = c.in_ok-assignment.ensures.assignment.relaxed;
      error = rw c.in_ok-assignment.ensures.colors c.in_ok-assignment.ensures.error;
      opaque = are.opaque;
    }
