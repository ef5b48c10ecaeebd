use Rattle.std.proofs.{Common.arith, lemmas.List.length_push}
use Rattle.sixel_palette.proofs.nearest_entries.NearestEntry.{near_pushed}
use Rattle.sixel_palette.proofs.palette.assignment.searched.Goals as goal

pub loop-code-preserved : goal.loop-code-preserved
loop-code-preserved c =
    let squares = c.loop-code.squares.items in
    let indices = c.loop-code.indices.items in
    let near = c.in_ok-near.near in
    let h = c.loop-code.invariant in
    rw (c.in_ok-push.ensures.items, c.in_ok-push-2.ensures.items) (record {
      search = c.in_ok-near.ensures.search;
      numbered = rw c.in_ok-near.ensures.entries h.numbered;
      squares = omega (arith, length_push squares near.squared, h.squares);
      indices = omega (arith, length_push indices near.index, h.indices);
      near =
          near_pushed _ _ _ _ _ _ h.squares h.indices h.near
          (c.in_ok-near.ensures.nearest c.args.colors.now h.numbered);
    })

pub returns-clause-relaxed : goal.returns-clause-relaxed
returns-clause-relaxed c =
    rw (c.in_ok-traversal.ensures.squares, c.in_ok-traversal.ensures.indices)
    (λ k l. c.loop-code.invariant.near k (omega arith))
