use Rattle.std.proofs.Common.{◌≡◌, ◌∙◌, ℕ, List, [], ◌∷◌, length, refl, ap, subst, arith, rules}
use Rattle.std.{proofs.lemmas.Bool.Decides.nat_tests, specs.Prelude.slice_index}
use Rattle.icy_sixel.specs.Receiver.{Receiver}
use Rattle.icysixel.{specs.Feed.IsFed, specs.declared.state.State.State}
use Rattle.icysixel.proofs.stream.feed.Goals as goal
use goal.{else-piece-eq1-via-else-piece-eq1, else-piece-eq1-via-then-piece-eq1+in-None-1}

pub returns-2-clause-fed : goal.returns-2-clause-fed
returns-2-clause-fed c =
    let old = c.args.state.now in
    let same : c.else-piece-eq1.state ≡ old = elim c.else-piece-eq1.branch [
      | else-piece-eq1-via-else-piece-eq1 w ↦ w.state-is
      | else-piece-eq1-via-then-piece-eq1+in-None-1 w ↦
          w.state-is
          ∙ ap (λ (r : Receiver). record old { receiver = r })
          (w.try_byte.ensures.left (search rules))
    ] in
    subst (λ (s : State). IsFed s c.feed_chunk.new.state c.args.piece.now c.feed_chunk.new.fed
    c.feed_chunk.result) same c.feed_chunk.ensures.fed

one_byte : (bytes : List ℕ) → length bytes ≡ 1 → slice_index bytes 0 ∷ [] ≡ bytes
one_byte [] one = absurd (omega arith)
one_byte (byte ∷ []) one = refl
one_byte (byte ∷ next ∷ bytes) one = absurd (omega arith)

pub returns-clause-fed : goal.returns-clause-fed
returns-clause-fed c =
    grind (arith, nat_tests, c.in-Some.ensures, one_byte, c.if-piece-eq1.true, c.of.ensures)
