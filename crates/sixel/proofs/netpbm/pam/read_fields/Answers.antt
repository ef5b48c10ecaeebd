use Rattle.std.proofs.{Common.{◌≡◌, ◌+◌, ◌-◌, arith, drop, take}, lemmas.Bool.Decides.nat_tests}
use Rattle.std.proofs.lemmas.List.{at_drop_more, get_or-drop, length-drop, take_more}
use Rattle.sixel.specs.netpbm.Pam.{read_lines}
use Rattle.sixel.proofs.netpbm.pam.read_fields.Goals as goal

pub bytes-preserved : goal.bytes-preserved
bytes-preserved c =
    let bytes = c.args.bytes.now in
    let start = c.bytes.start in
    let index = c.bytes.index in
    let line = take (index - start) (drop start bytes) in
    let next = at_drop_more (read_lines c.bytes.fields line) bytes index 0 c.bytes-test.true in
    elim c.if-byte-eq10.branch [
      | goal.then-byte-eq10+else-is_end+in_ok-fields w ↦
          let none : index + 1 - (index + 1) ≡ 0 = omega arith in
          grind (arith, nat_tests, next)
      | goal.else-byte-eq10 w ↦
          let so_far : index + 1 - start ≡ (index - start) + 1 = omega arith in
          let more =
          take_more (drop start bytes) (index - start) 0 (simp length-drop (omega arith)) in
          grind (arith, nat_tests, next, more, get_or-drop)
    ]
