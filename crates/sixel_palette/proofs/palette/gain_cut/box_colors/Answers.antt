use Rattle.std.proofs.Common.{◌≡◌, ℕ, ◌<◌, [], true, List, length, map, sym, ◌∙◌, arith}
use Rattle.std.proofs.lemmas.List.{get_or-map, get_or_default, length-map, length_push, same_lists}
use Rattle.std.proofs.lemmas.List.Elements.{All-push}
use Rattle.sixel_base.specs.Color.{rgb}
use Rattle.sixel_palette.{proofs.colors.Lists.each_push, specs.ColorSums.mean_or, specs.GainCut.Box}
use Rattle.sixel_palette.{specs.GainCut.{box_at, box_sums}, specs.Refined.IsRegisterColor}
use Rattle.sixel_palette.proofs.palette.gain_cut.box_colors.Goals as goal

pub loop-position-preserved : goal.loop-position-preserved
loop-position-preserved c =
    let colors = c.loop-position.colors.items in
    let position = c.loop-position.position in
    let mean = c.mean_of.result in
    let h = c.loop-position.invariant in
    rw c.in_ok-push.ensures.items (record {
      shown = All-push IsRegisterColor colors mean h.shown c.mean_of.ensures.shown;
      size = omega (arith, length_push colors mean, h.size);
      means = λ pixels model are.
          each_push (λ i x. x ≡ mean_or (box_sums pixels (box_at model i)) (rgb 0 0 0)) colors mean
          [] position h.size (h.means pixels model are)
          (c.mean_of.ensures.mean pixels (box_at model position)
          (are.bins_of position _ (omega arith)));
    })

pub returns-clause-means : goal.returns-clause-means
returns-clause-means c = λ pixels model are.
    let colors = c.loop-position.colors.items in
    let h = c.loop-position.invariant in
    let f : Box → List ℕ = λ box. mean_or (box_sums pixels box) (rgb 0 0 0) in
    same_lists colors (map f model) (omega (arith, h.size, are.size, length-map model f))
    (λ k d l.
    let inside : k < length model = omega (arith, l, h.size, are.size) in
    get_or_default colors k d [] l
    ∙ (h.means pixels model are k (omega (arith, l, h.size))
    ∙ sym (get_or-map f model k (λ _. true) d inside)))
