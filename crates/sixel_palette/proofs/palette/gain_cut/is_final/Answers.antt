use Rattle.std.{proofs.Common.{ap, sym}, proofs.lemmas.List.get_or_default, specs.Prelude.{◌==◌}}
use Rattle.sixel_palette.proofs.refinement.BestBox.{best_gain}
use Rattle.sixel_palette.proofs.palette.gain_cut.is_final.Goals as goal

pub returns : goal.returns
returns c = λ pixels bins model h.
    ap (λ g. g == 0) (sym (best_gain pixels bins _ _ _ _ h c.requires (c.best_of.ensures.first _)
    c.best_of.ensures.within (get_or_default c.args.boxes.now _ _ _ c.best_of.ensures.within)))
