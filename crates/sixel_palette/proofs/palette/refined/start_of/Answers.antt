use Rattle.std.proofs.Common.{refl, ◌∙◌, arith}
use Rattle.sixel_palette.proofs.palette.refined.start_of.Goals as goal

pub returns : goal.returns
returns c =
    let initial = c.in_ok-initial.ensures in
    let same = (rw c.deref.ensures.value at c.in_ok-assignment.ensures.colors) in
    record {
      initial_shown = initial.shown;
      initial_few = omega (arith, initial.size);
      initial_some = λ some. omega (arith, initial.size, some);
      assignment = c.in_ok-assignment.ensures.assignment;
      shown = rw same initial.shown;
      size = rw same refl;
      falls = rw same (omega arith);
      whole = λ _. (initial.same, same ∙ initial.same);
      cut = λ more. absurd (omega (arith, more));
    }
