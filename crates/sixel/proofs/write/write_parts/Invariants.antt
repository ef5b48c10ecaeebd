-- The parts so far are written, and the others make up the rest.
use Rattle.std.proofs.Common.{◌≡◌, ◌++◌, List, drop, map, ℕ}
use Rattle.std.specs.{Io.KnownBytes.Appends, List.concat}
use Rattle.sixel.proofs.write.write_parts.Given as goal

abbrev pub invariant-parts : goal.invariant-parts
invariant-parts g l =
    (front : List ℕ) × Appends (g.O.Write.contents l.fn.output) (g.O.Write.contents l.output) front
    × (front ++ concat (map (λ part. part.now) (drop l.part-index l.parts))
    ≡ concat (map (λ part. part.now) l.parts))
