use Rattle.std.proofs.Common.{◌≡◌, ℕ, ◌+◌, ◌≤◌, List, length, take, true, refl, sym, ap, ◌∙◌, arith}
use Rattle.std.specs.Prelude.{fold}
use Rattle.sixel_base.specs.{Fault.is_fault, History.{History, read}, Lenient.effective}
use Rattle.sixel_decoder.proofs.drawing.LenientTokens.{has_drawn_front, has_drawn_ignored}
use Rattle.sixel_decoder.proofs.drawing.{LenientTokens.has_drawn_more, PaintedRuns.Shows-eight}
use Rattle.sixel_decoder.proofs.drawing.SixelRuns.{IsRun-take, fold_one, fold_run, length-front}
use Rattle.sixel_decoder.proofs.drawing.SixelRuns.{length-bits_of, with_sixels}
use Rattle.sixel_decoder.proofs.painter.Painter.draw_sixels.Goals as goal

pub returns-then-self-len-clause-tolerates : goal.returns-then-self-len-clause-tolerates
returns-then-self-len-clause-tolerates g c = λ o h state.
    let old = c.args.self.now in
    let bytes : List ℕ = c.args.bytes.now in
    let older : History = effective o.pixel_limit h in
    let len : ℕ = c.of-front.result.len in
    let eight : List ℕ = c.of-front.result.bits in
    let front = c.of-front.ensures in
    let drawn = c.in_ok-draw_eight.ensures in
    let within : len ≤ length bytes = omega (arith, front.few, c.if-bytes-ge8.true) in
    let sixels : List ℕ = take len eight in
    let long : length sixels ≡ len =
    ap length front.bits ∙ length-bits_of (take len bytes)
    ∙ length-front (take len bytes) bytes len refl within in
    let whole : fold read older (take len bytes) ≡ with_sixels older sixels =
    fold_run older (take len bytes) (IsRun-take len bytes within front.sixels)
    ∙ ap (with_sixels older) (sym front.bits) in
    has_drawn_front o _ _ h len bytes within front.sixels
    (Shows-eight o older (fold read older (take len bytes)) old _ sixels eight whole state.shows
    (omega arith)
    (omega (arith, long, c.if-self-len.true))
    (omega (arith, c.top.ensures))
    (omega (arith, long, front.few))
    (ap (λ (n : ℕ). take n eight) long)
    (λ k past. front.blank k (omega (arith, past, long)))
    drawn.drawn drawn.paid drawn.top c.add_eight.ensures refl refl refl
    (ap (λ (n : ℕ). old.column + n) (sym long))
    refl refl refl refl refl refl refl)
    state.count

pub returns-in-Ok-clause-tolerates : goal.returns-in-Ok-clause-tolerates
returns-in-Ok-clause-tolerates g c = λ o h state.
    rw (fold_one h c.args.bytes.now c.requires.some c.requires.sixel)
    (has_drawn_more o _ _ _ h
    (c.find_ready.ensures.shows o _ (c.in-Ok.ensures.draws o _ state.shows)) state.count)

pub returns-then-is_fault-clause-tolerates : goal.returns-then-is_fault-clause-tolerates
returns-then-is_fault-clause-tolerates g c = λ o h state.
    let faulty : is_fault c.in-Err.error ≡ true = sym c.is_fault.ensures ∙ c.if-is_fault.true in
    rw c.saturating_add.ensures
    (has_drawn_ignored _ o c.args.self.now _ _ h _ c.requires.some c.requires.sixel
    (sym c.lenient-lenient.ensures ∙ c.if-lenient.true) faulty state
    (c.in-Err.ensures.draws o _ state.shows)
    (c.drop_repeat.ensures.shows o _ (rw (c.in-Err.ensures.kept faulty) state.shows)))
