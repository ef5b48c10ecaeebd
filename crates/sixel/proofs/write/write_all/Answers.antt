use Rattle.std.proofs.Common.{arith, drop, length-drop, length-take, refl, rules, take}
use Rattle.std.proofs.lemmas.List.{take-append-drop}
use Rattle.sixel.{proofs.WrittenBytes.Appends-rest, specs.Ending.Done}
use Rattle.sixel.proofs.write.write_all.Goals as goal

pub writes-preserved : goal.writes-preserved
writes-preserved g c =
    let fits = simp (length-take, length-drop) at c.in-Ok.ensures.bound in
    record {
      within = omega (arith, fits);
      written = Appends-rest _ _ _ _ _ _ c.writes.invariant.written c.in-Ok.ensures.bytes;
    }

pub returns-in-Ok-eq0 : goal.returns-in-Ok-eq0
returns-in-Ok-eq0 g c = (
  take c.writes.done c.args.bytes.now,
  (drop c.writes.done c.args.bytes.now, Done, (take-append-drop _ _, refl)),
  search rules,
)

pub returns : goal.returns
returns g c = (
  take c.writes.done c.args.bytes.now,
  (drop c.writes.done c.args.bytes.now, Done, (take-append-drop _ _, refl)),
  c.writes.invariant.written,
)
