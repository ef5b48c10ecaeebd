use Rattle.std.proofs.{Common.{append_assoc, arith, refl}, lemmas.Bool.Decides.nat_tests}
use Rattle.std.proofs.lemmas.Grind.{common_steps}
use Rattle.sixel_encoder.proofs.JoinedLists.{joined-more}
use Rattle.sixel_encoder.proofs.band_rows.Dots.{appended-start, appended-more}
use Rattle.sixel_encoder.proofs.text.encode_indexed.Goals as goal

pub loop-entry-init : goal.loop-entry-init
loop-entry-init c = appended-start _ _

pub loop-entry-preserved : goal.loop-entry-preserved
loop-entry-preserved c = grind (arith, common_steps, joined-more)

pub loop-band-init : goal.loop-band-init
loop-band-init c = grind (arith, nat_tests, appended-start, c.in_ok-rows.ensures)

pub loop-band-preserved : goal.loop-band-preserved
loop-band-preserved c =
    let told = c.in_ok-push_band.ensures in
    record {
      text = appended-more _ _ _ _ _ _ c.loop-band.invariant.text told.text refl;
      empty = told.empty;
    }

pub returns : goal.returns
returns c = grind (arith, nat_tests, append_assoc)
