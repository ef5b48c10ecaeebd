use Rattle.std.proofs.Common.{◌≡◌, arith, slice_index}
use Rattle.std.proofs.lemmas.{Bool.Decides.nat_tests, Grind.get_or-set_at, List.get_or-set_other}
use Rattle.sixel_encoder.proofs.plain_text.Bound.{bound-end}
use Rattle.sixel_encoder.proofs.bound.RowRuns.end.Goals as goal

pub returns-then-start-eq0-clause-bound : goal.returns-then-start-eq0-clause-bound
returns-then-start-eq0-clause-bound c = λ drawing band change is.
    let starts = c.args.self.now.starts in
    let lane = c.args.lane in
    let at : slice_index starts c.from-entry.result ≡ slice_index starts lane =
    grind (arith, nat_tests) in
    let none : slice_index starts lane ≡ 0 = omega (arith, at, c.if-start-eq0.true) in
    bound-end drawing band c.args.column lane c.min.result c.args.self.now _ c.requires.column
    (change c.if-lane-eq-TRANSPARENT.false) is
    (λ k ne. grind (arith, nat_tests, get_or-set_other, c.from-entry.ensures)) (grind
    (arith, nat_tests, get_or-set_at, c.from-entry.ensures, c.requires.starts, c.requires.lane))
    (grind (arith, nat_tests)) (omega (arith, at, c.min.ensures))
    (omega (arith, c.min.ensures))

pub returns-else-start-eq0-clause-bound : goal.returns-else-start-eq0-clause-bound
returns-else-start-eq0-clause-bound c = λ drawing band change is.
    let starts = c.args.self.now.starts in
    let lane = c.args.lane in
    let at : slice_index starts c.from-entry.result ≡ slice_index starts lane =
    grind (arith, nat_tests) in
    bound-end drawing band c.args.column lane c.min.result c.args.self.now _ c.requires.column
    (change c.if-lane-eq-TRANSPARENT.false) is
    (λ k ne. grind (arith, nat_tests, get_or-set_other, c.from-entry.ensures)) (grind
    (arith, nat_tests, get_or-set_at, c.from-entry.ensures, c.requires.starts, c.requires.lane))
    (grind (arith, nat_tests)) (omega (arith, at, c.min.ensures)) (omega (arith, c.min.ensures))
