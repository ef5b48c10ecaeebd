use Rattle.std.proofs.Common.{arith}
use Rattle.sixel_palette.specs.Palette.{IsShown}
use Rattle.sixel_palette.proofs.traversal.{Choices.size_from_codes, Law.size_same}
use Rattle.sixel_palette.proofs.palette.register_color.count_colors.Goals as goal

pub returns-clause-count : goal.returns-clause-count
returns-clause-count c = λ n size.
    let are = c.in_ok-colors.ensures.codes in
    let own = size_from_codes (IsShown c.args.pixels.now) _ are.ascending are.shown are.listed in
    omega (arith, size_same c.args.pixels.now n _ size own)

pub returns-clause-exact : goal.returns-clause-exact
returns-clause-exact c =
    let are = c.in_ok-colors.ensures.codes in
    let exact = rw c.deref.ensures.value at c.are_exact.ensures in (
      λ yes color shown. exact.0 yes color (are.shown color shown),
      λ all. exact.1 (λ color listed. all color (are.listed color listed)),
    )
