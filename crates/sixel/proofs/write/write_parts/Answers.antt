use Rattle.std.specs.List.{concat}
use Rattle.std.proofs.Common.{◌+◌, append_assoc, arith, Bor, List, drop, map, ℕ}
use Rattle.std.proofs.KnownBytes.{Appends-trans}
use Rattle.std.proofs.lemmas.{Bool.Decides.nat_tests, List.drop_more, Result.err_from_is_err_and}
use Rattle.sixel.proofs.WrittenBytes.{Serves-after}
use Rattle.sixel.proofs.write.write_parts.Goals as goal

pub returns-in_err-write_all : goal.returns-in_err-write_all
returns-in_err-write_all g c =
    let p = err_from_is_err_and c.from_residual.result c.from_residual.ensures.1 in
    let (front, before, all) = c.parts.invariant in
    let rest =
    concat (map (λ (part : Bor (List ℕ)). part.now)
    (drop (c.parts.part-index + 1) c.args.parts.now)) in
    rw (p.1, p.2)
    (Serves-after (Unit {0}) (Unit {0}) _ front _ rest _ _ _ _ before c.in_err-write_all.ensures
    (grind (arith, nat_tests, all, drop_more)))

pub parts-preserved : goal.parts-preserved
parts-preserved g c = grind (arith, nat_tests, Appends-trans, drop_more, append_assoc)
