-- `none` makes a null pointer, beside which a handle owns nothing.
use Rattle.icysixel.proofs.Steps
use Steps.{[], ◌∷◌, None, refl, lit<, proved, emp, raw, ◌$◌, ◌∵◌, !, qed, drop, join, fjoin}
use Steps.{suffices, done, agg, no_more, and_then, of_opd, lit, returns, enter, alloc_all, pass_all}
use Steps.{free_all, look_at, get, sets, yes, Is, null_ptr, nothing, owned, shape, to, Struct}
use Steps.{Struct-Makes, on_entry, says, Stays, stay_dropped, walk_of, ends_at, Goes-dropped}
use Rattle.std_heap.proofs.Global.TheLaws as heap
use Rattle.icysixel.proofs.AsBox.{FromHeap as From}
use Rattle.icysixel.specs.contracts.state_pointer.StatePointer as StatePointer
use Rattle.icysixel.proofs.state_pointer.StatePointer.TheLaws as laws
use Rattle.icysixel.specs.contracts.state_pointer.StatePointer.none as F
use Rattle.icysixel.proofs.state_pointer.StatePointer.none.Statement.{statement}
use Rattle.icysixel.proofs.state_pointer.StatePointer.none.Code as code

abbrev stayed : Stays (F.ended).signature.params (F.ended).kept
stayed = (stay_dropped From yes, tt)

pub none_spec : {M : Type 1} → statement M
none_spec 𝓤 𝓛 𝓜 𝓡 wired =
    let c = F.clauses 𝓛 𝓜.mem 𝓡.returns in
    let W = walk_of 𝓛 F.ended stayed c in
    proved 𝓛 F.ended stayed c 𝓜 𝓡 (Goes-dropped 𝓛 0 From yes (λ κs x f. refl), tt)
    F.Key.name code.function (code.unfolded 𝓤 𝓛.H 𝓜 𝓡 wired)
    (λ κs. (λ h. heap.lowered h ∷ [], tt)) (λ κs. (heap.lowers.val_is, tt))
    (λ κs qs bounds a g are.
    let z : W.Ghost = ((κs, qs, bounds, a, (heap.lowered a.0 ∷ [], tt)), tt) in
    let made : StatePointer.the_row.Denot = record { at = null_ptr; alloc = a.0; state = None } in
    let w = laws.lowered made in
    let fields = shape StatePointer.the_type in
    qed 𝓛 (raw (on_entry 𝓛 F.signature κs qs a z.0.4) ∷ raw (emp 𝓤) ∷ []) ∵ drop ! $ drop ! $
    enter ! _ _ _ _ _ $ alloc_all ! (λ l. pass_all ! refl ((tt, ((tt, tt), tt)), tt) $
    sets ! (of_opd ! (lit ! tt)) refl (tt, record { fits = lit< tt }) $
    sets ! (agg ! (and_then ! (get ! refl) (and_then ! (get ! refl) (no_more !)))) refl
    (tt, (record { fits = lit< tt }, (((tt, tt), tt), tt))) $
    returns ! (look_at ! 0 refl) $ free_all ! refl $
    suffices ! _ (ends_at 𝓛 F.ended stayed c z w made (tt, tt) (tt, tt)) $ says ! refl $ nothing ! $
    owned ! (Struct fields) (Is (Struct fields)) (Struct-Makes 𝓛 fields
    (λ x vs. tt, (λ x vs us. (tt, (λ ws. (tt, (tt, tt)), tt)), tt))) (to StatePointer.the_type made)
    (w ∷ []) (_, (refl, (refl, (are.0, tt)))) $ fjoin ! $
    nothing ! $ nothing ! $ fjoin ! $ join ! $ nothing ! $ join ! $ done !))
