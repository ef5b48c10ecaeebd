-- `into_parts` moves two fields, and what they own goes with them: what a box of the state owns.
use Rattle.icysixel.proofs.Steps
use Steps.{◌≡◌, true, [], ◌∷◌, Option, refl, proved, Ptr-Good, ftrue, fsep, fact, ‵, raw, ◌⊛◌, ◌$◌}
use Steps.{◌∵◌, !, qed, move, keep, drop, join, split, rewrite, fsplit, fjoin, suffices, done}
use Steps.{whole, sub, agg, stop, fld, no_more, and_then, of_opd, returns, enter, alloc_all}
use Steps.{pass_all, free_all, look_at, get, get_in, sets, yes, heard, nothing, says, Stays}
use Steps.{stay_dropped, walk_of, ends_at, Goes-dropped}
use Rattle.std.specs.Prelude.{is_some}
use Rattle.icysixel.proofs.AsBox.{FromPointer as From, FromParts, some_of}
use Rattle.icysixel.specs.contracts.state.State as State
use Rattle.icysixel.specs.contracts.state_pointer.StatePointer as StatePointer
use Rattle.icysixel.proofs.state_pointer.StatePointer.TheLaws as laws
use Rattle.icysixel.specs.contracts.state_pointer.StatePointer.into_parts as F
use Rattle.icysixel.proofs.state_pointer.StatePointer.into_parts.Statement.{statement}
use Rattle.icysixel.proofs.state_pointer.StatePointer.into_parts.Code as code

abbrev stayed : Stays (F.ended).signature.params (F.ended).kept
stayed = (stay_dropped From yes, tt)

pub into_parts_spec : {M : Type 1} → statement M
into_parts_spec 𝓤 𝓛 𝓜 𝓡 wired =
    let c = F.clauses 𝓛 𝓜.mem 𝓡.returns in
    let W = walk_of 𝓛 F.ended stayed c in
    proved 𝓛 F.ended stayed c 𝓜 𝓡 (Goes-dropped 𝓛 0 From yes (λ κs x f. refl), tt)
    F.Key.name code.function (code.unfolded 𝓤 𝓛.H 𝓜 𝓡 wired)
    (λ κs. (λ h. laws.lowered h ∷ [], tt)) (λ κs. (laws.lowers.val_is, tt))
    (λ κs qs bounds a g are.
    let h : StatePointer.the_row.Denot = a.0 in
    let word = laws.lowered h in
    let z : W.Ghost = ((κs, qs, bounds, a, (word ∷ [], tt)), tt) in
    let typed = ((laws.the_row_laws.lawful 𝓛).typed h _ are.0).0 in
    qed 𝓛 ((‵ ftrue ⊛ ‵ (fsep (StatePointer.the_row.own_val h (word ∷ [])) ftrue))
    ∷ raw (fact 𝓤 (is_some h.state ≡ true)) ∷ []) ∵
    move ! (1 ∷ []) $ heard ! _ (λ held.
    let found = some_of h.state held in
    let made : (FromParts.row tt).Denot =
    record { ptr = h.at; alloc = h.alloc; value = found.0 } in
    split ! $ drop ! $ fsplit ! $ keep ! (0 ∷ []) $
    rewrite ! 0 (λ (s : Option State.the_row.Denot).
    ‵ (StatePointer.the_row.own_val (record h { state = s }) (word ∷ []))) found.1 refl $
    enter ! _ _ _ _ _ $ alloc_all ! (λ l. pass_all ! refl (typed, tt) $
    sets ! (of_opd ! (get_in ! (fld ! refl (stop !)) (sub ! 0 refl (whole !)))) refl
    (Ptr-Good h.at) $
    sets ! (of_opd ! (get_in ! (fld ! refl (stop !)) (sub ! 1 refl (whole !)))) refl
    (tt, ((tt, tt), tt)) $
    sets ! (of_opd ! (get ! refl)) refl (Ptr-Good h.at) $
    sets ! (agg ! (and_then ! (get ! refl) (and_then ! (get ! refl) (no_more !)))) refl typed $
    returns ! (look_at ! 0 refl) $ free_all ! refl $
    suffices ! _ (ends_at 𝓛 F.ended stayed c z word made (tt, tt) (tt, tt)) $
    says ! found.1 $ nothing ! $ nothing ! $ fjoin ! $ join ! $ nothing ! $ join ! $ done !)))
