use Rattle.std.proofs.Common.{◌≡◌, ℕ, ◌+◌, ◌-◌, ◌*◌, ◌<◌, ◌≤◌, ◌∙◌, arith, get_or, inl, inr}
use Rattle.std.proofs.lemmas.{Bool.{Decides.nat_tests, cases_lt}, List.{length-set, places}}
use Rattle.std.proofs.lemmas.List.{with_items_is}
use Rattle.sixel_palette.proofs.traversal.Farthest.{Contains-word, index_from_word}
use Rattle.sixel_palette.proofs.traversal.Farthest.{indices_more, indices_nearest}
use Rattle.sixel_palette.proofs.palette.indices.indices_of.Goals as goal

pub index_of-index-requires-clause-listed : goal.index_of-index-requires-clause-listed
index_of-index-requires-clause-listed c = λ o.
    Contains-word _ _ _ _ (c.four_words-words.ensures c.loop-lane.lane (omega arith)) (omega arith)
    o c.requires.colors.codes.shown

pub index_of-requires-clause-listed : goal.index_of-requires-clause-listed
index_of-requires-clause-listed c = λ o.
    Contains-word _ _ _ _ c.pixel_word.ensures (omega arith) o c.requires.colors.codes.shown

pub loop-lane-preserved : goal.loop-lane-preserved
loop-lane-preserved c =
    let h = c.loop-lane.invariant in
    let pixel = 4 * c.loop-four.four + c.loop-lane.lane in
    let next : 4 * c.loop-four.four + (c.loop-lane.lane + 1) ≡ pixel + 1 = omega arith in
    let this : c.loop-lane.lane + 1 - 1 ≡ c.loop-lane.lane = omega arith in
    record {
      size = length-set _ _ _ ∙ h.size;
      each =
          rw next (indices_more _ _ _ _ pixel _ _ (omega (arith, h.size))
          (c.four_words-words.ensures c.loop-lane.lane (omega arith)) c.index_of-index.ensures
          h.each);
      last = λ some. rw this c.index_of-index.ensures;
    }

pub loop-four-preserved : goal.loop-four-preserved
loop-four-preserved c =
    let h = c.loop-four.invariant in
    let end : 4 * (c.loop-four.four + 1) ≡ 4 * c.loop-four.four + 4 = omega arith in
    elim c.if-are_four_of.branch [
      | goal.then-are_four_of w ↦
          let pixel = 4 * c.loop-four.four in
          let same = c.are_four_of.ensures w.if-are_four_of.true in
          let old = c.loop-four.indices.items in
          let new = c.if-are_four_of.indices.items in
          let below : (k : ℕ) → k < pixel → get_or new k 0 ≡ get_or old k 0 = λ k l.
          grind (arith, with_items_is, nat_tests, places) in
          let inside : (k : ℕ) → pixel ≤ k → k < pixel + 4 → get_or new k 0 ≡ c.loop-four.index =
          λ k m l. grind (arith, with_items_is, nat_tests, places, w.fill.ensures.clones) in
          rw (w.last-is, w.index-is, end) (record {
            size = grind (arith, nat_tests, with_items_is);
            each = λ k l. elim (cases_lt k pixel) [
              | inl less ↦ rw (below k less) (h.each k less)
              | inr more ↦
                  rw (inside k more l) (index_from_word _ _ _ k _ _ (same k more l) h.last)
            ];
            last = h.last;
          })
      | goal.else-are_four_of+else-loop-lane-test w ↦
          let all : w.loop-lane.lane ≡ 4 = omega arith in
          let made = w.loop-lane.invariant in
          rw (w.indices-is, w.last-is, w.index-is, end) (record {
            size = made.size;
            each = rw all at made.each;
            last = (rw all at made.last) (omega arith);
          })
    ]

pub loop-pixel-preserved : goal.loop-pixel-preserved
loop-pixel-preserved c =
    let h = c.loop-pixel.invariant in
    record {
      size = length-set _ _ _ ∙ h.size;
      each =
          indices_more _ _ _ _ c.loop-pixel.pixel _ _ (omega (arith, h.size)) c.pixel_word.ensures
          c.index_of.ensures h.each;
    }

pub returns : goal.returns
returns c = λ entries squares near below.
    indices_nearest _ _ squares _ entries _ near below (omega arith) (grind arith)
