-- `of_parts` moves two fields, and what they own goes with them.
use Rattle.std_alloc.proofs.BoxSteps.{Form.{D, B, word, box_typed}, Steps.{box_out, box_in}}
use Rattle.icysixel.proofs.state_pointer.StatePointer.of_parts.Statement.{statement}
use Rattle.icysixel.proofs.Steps
use Rattle.icysixel.proofs.AsBox.{E, FromParts as From}
use Rattle.icysixel.specs.contracts.state_pointer.StatePointer as StatePointer
use Rattle.icysixel.specs.contracts.state_pointer.StatePointer.of_parts as F
use Rattle.icysixel.proofs.state_pointer.StatePointer.of_parts.Code as code
use Steps.{List, [], ◌∷◌, ◌++◌, Some, refl, proved_at, emp, ftrue, fsep, Val, tables, WpFn, ‵, raw}
use Steps.{prop, ◌⊛◌, ◌$◌, ◌∵◌, !, qed, keep, drop, join, split, regoal, fsplit, fjoin, suffices}
use Steps.{done, whole, sub, agg, stop, fld, no_more, and_then, of_opd, returns, enter, alloc_all}
use Steps.{pass_all, free_all, look_at, get, get_in, sets, yes, nothing, says, Stays, stay_dropped}
use Steps.{walk_of, ends_at, Goes-dropped}

abbrev stayed : Stays (F.ended).signature.params (F.ended).kept
stayed = (stay_dropped From yes, tt)

pub of_parts_spec : {M : Type 1} → statement M
of_parts_spec 𝓤 𝓛 𝓜 𝓡 wired =
    let c = F.clauses 𝓛 𝓜.mem 𝓡.returns in
    let W = walk_of 𝓛 F.ended stayed c in
    let 𝓣 = tables 𝓤 𝓛.H 𝓜 𝓡 𝓡.env in
    proved_at 𝓛 F.ended stayed c 𝓜 𝓡 (Goes-dropped 𝓛 0 From yes (λ κs x f. refl), tt)
    F.Key.name code.function (code.unfolded 𝓤 𝓛.H 𝓜 𝓡 wired) (λ z are.
    let v : D E = record { ptr = z.0.3.0.ptr; alloc = z.0.3.0.alloc; value = z.0.3.0.value } in
    let made : StatePointer.the_row.Denot =
    record { at = v.ptr; alloc = v.alloc; state = Some v.value } in
    qed 𝓛 ((‵ ftrue ⊛ ‵ (fsep ((B E).own_val v z.0.4.0) ftrue)) ∷ raw (emp 𝓤) ∷ []) ∵ split ! $
    drop ! $ fsplit ! $
    box_out E ! v z.0.4.0 (λ b o hv e ws fa. box_in E ! v b o v.value e refl $ keep ! (0 ∷ []) $
    regoal ! (λ (us : List Val). prop (WpFn 𝓤 𝓛.H 𝓣.C 𝓣.Λ code.function (us ++ []) (W.post z)))
    ws refl $
    enter ! _ _ _ _ _ $ alloc_all ! (λ ls. pass_all ! refl (box_typed E hv b o fa, tt) $
    sets ! (of_opd ! (get_in ! (fld ! refl (stop !)) (sub ! 0 refl (whole !)))) refl (tt, tt) $
    sets ! (of_opd ! (get_in ! (fld ! refl (stop !)) (sub ! 1 refl (whole !)))) refl fa $
    sets ! (of_opd ! (get ! refl)) refl (tt, tt) $
    sets ! (agg ! (and_then ! (get ! refl) (and_then ! (get ! refl) (no_more !)))) refl
    (box_typed E hv b o fa) $ returns ! (look_at ! 0 refl) $ free_all ! refl $
    suffices ! _ (ends_at 𝓛 F.ended stayed c z (word E hv b o) made (tt, tt) (tt, tt)) $
    says ! refl $ nothing ! $ nothing ! $ fjoin ! $ join ! $ nothing ! $ join ! $ done !)))
