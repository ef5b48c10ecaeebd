use Rattle.std.proofs.{Common.arith, lemmas.Bool.Decides.nat_tests}
use Rattle.sixel_palette.proofs.mapped_images.Undithered.{has_entry-found, has_entry-more}
use Rattle.sixel_palette.proofs.mapped_images.Undithered.{has_entry-none, has_entry-past}
use Rattle.sixel_palette.proofs.dithering.undithered.Choice.lacking_below.Goals as goal

pub returns-then-pixel-indices-clause-value : goal.returns-then-pixel-indices-clause-value
returns-then-pixel-indices-clause-value c = grind (arith, nat_tests, has_entry-past)

pub returns-then-has-clause-value : goal.returns-then-has-clause-value
returns-then-has-clause-value c = grind (arith, nat_tests, has_entry-found)

pub loop-line-preserved : goal.loop-line-preserved
loop-line-preserved c = grind (arith, nat_tests, has_entry-more)

pub returns-clause-value : goal.returns-clause-value
returns-clause-value c = grind (arith, nat_tests, has_entry-none)
