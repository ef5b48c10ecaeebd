-- `lend` lends the state as a box lends its value: the handle and the box own the same, and the
-- handle follows what is lent.
use Rattle.std.specs.{Borrow.MutBor, Prelude.is_some}
use Rattle.std_alloc.proofs.BoxSteps.{Form.{D, B, R, τ, word, handle}, Steps.{box_out, box_in}}
use Rattle.icysixel.proofs.AsBox.{E, some_of}
use Rattle.icysixel.specs.inside.Lending.{with_state}
use Rattle.icysixel.proofs.state_pointer.StatePointer.lend.Statement.{statement}
use base.Fraction.{full_share}
use denote.{Follow.{follows, lends_Part}, Memory.{part_at, mem, cell_at, part_of}}
use denote.Triple.Walked.{Goes-spent_ref}
use Rattle.icysixel.proofs.Steps
use mir.Raw.{raw as bare}
use Rattle.icysixel.specs.contracts.state.State as State
use Rattle.icysixel.specs.contracts.state_pointer.StatePointer as StatePointer
use Rattle.icysixel.specs.contracts.state_pointer.StatePointer.lend as F
use Rattle.icysixel.proofs.state_pointer.StatePointer.lend.Code as code
use Steps.{◌≡◌, ℕ, true, List, [], ◌∷◌, Option, refl, token, proved, Ura, ent, sep, id⊢, GName, Fml}
use Steps.{ftrue, fsep, flft, named, Val, vptr, fact, tables, Logic, sem, ‵, raw, at_ret, ◌⊛◌, some}
use Steps.{later, ◌$◌, ◌∵◌, !, qed, move, keep, use1, join, split, split3, rewrite, pick, await}
use Steps.{fpack, fsplit, fsplit3, fjoin, suffices, frame, group, done, whole, sub, look_in, stop}
use Steps.{fld, load, addr, of_opd, first, blocks, exec, returns, enter, alloc_all, pass_all}
use Steps.{free_all, look_at, get, through, sets, sets_last, env, no, block_ptr, MutRef, mut_vals}
use Steps.{mut_Tells, plain, mut_ref_to, heard, nothing, opens, says, Stays, stay_dropped, walk_of}
use Steps.{ends_at}

abbrev stayed : Stays (F.ended).signature.params (F.ended).kept
stayed = (stay_dropped (mut_ref_to (0 ∷ []) tt (plain (λ _. StatePointer.the_row))) no, tt)

abbrev box_of : StatePointer.the_row.Denot → State.the_row.Denot → D E
box_of h x = record { ptr = h.at; alloc = h.alloc; value = x }

module _ {M : Type 1} {𝓤 : Ura M} (𝓛 : Logic 𝓤) (h : StatePointer.the_row.Denot) (rb ro b o : ℕ)
    (hv : Val) where
  -- all of the handle but its state
  abbrev Rest : Fml
  Rest =
      fsep (fsep (token E.al h.alloc (bare (τ E)) (block_ptr b o)) (handle E h.alloc hv))
      (cell_at full_share StatePointer.the_row.mir (word E hv b o ∷ []) rb ro)

  back : h.at ≡ block_ptr b o → (w : State.the_row.Denot)
      → ent 𝓤 (sep 𝓤 (sem 𝓛 ((mem State.the_row).own_at w b o)) (sem 𝓛 Rest))
      (sem 𝓛 ((mem StatePointer.the_row).own_at (with_state h w) rb ro))
  unfolding part_of
  back at_b w =
      qed 𝓛 (‵ (part_at (R E) full_share w b o) ∷ ‵ Rest ∷ []) ∵ move ! (1 ∷ []) $ fsplit ! $
      fsplit ! $ move ! (3 ∷ []) $ box_in E ! (box_of h w) b o w at_b refl $
      move ! (1 ∷ 0 ∷ []) $ fjoin ! $
      fpack ! (List Val)
      (λ us.
      fsep (cell_at full_share StatePointer.the_row.mir us rb ro)
      (StatePointer.the_row.own_val (with_state h w) us))
      (word E hv b o ∷ []) $ done !

pub lend_spec : {M : Type 1} → statement M
lend_spec 𝓤 𝓛 𝓜 𝓡 wired =
    let c = F.clauses 𝓛 𝓜.mem 𝓡.returns in
    let W = walk_of 𝓛 F.ended stayed c in
    let 𝓣 = tables 𝓤 𝓛.H 𝓜 𝓡 𝓡.env in
    proved 𝓛 F.ended stayed c 𝓜 𝓡
    (Goes-spent_ref 𝓛 1 (0 ∷ []) tt (plain (λ _. StatePointer.the_row)), tt)
    F.Key.name code.function (code.unfolded 𝓤 𝓛.H 𝓜 𝓡 wired)
    (λ κs. (mut_vals, tt)) (λ κs. (mut_Tells (named 0) κs.0 StatePointer.the_row, tt))
    (λ κs qs bounds a g are.
    let κ = κs.0 in
    let q = qs.0 in
    let h = a.0.now in
    let rb = a.0.ref_ptr.0 in
    let ro = a.0.ref_ptr.1 in
    let γ = a.0.ghost_name in
    let vs = mut_vals a.0 in
    let z : W.Ghost = ((κs, qs, bounds, a, (vs, tt)), tt) in
    qed 𝓛 (((‵ (flft κ q) ⊛ ‵ ftrue)
    ⊛ ‵ ((MutRef (named 0) κ StatePointer.the_row).own_val a.0 vs) ⊛ ‵ ftrue)
    ∷ raw (fact 𝓤 (is_some h.state ≡ true)) ∷ []) ∵ move ! (1 ∷ []) $ heard ! _ (λ held.
    let found = some_of h.state held in
    split ! $ split ! $ move ! (2 ∷ []) $ split ! $ keep ! (0 ∷ 2 ∷ []) $
    enter ! _ _ _ _ _ $ alloc_all ! (λ l. pass_all ! refl ((tt, tt), tt) $
    fsplit3 ! $ move ! (1 ∷ 2 ∷ 3 ∷ []) $
    opens ! tt StatePointer.the_row {h = h} rb ro (λ vs. move ! (1 ∷ []) $
    rewrite ! 0 (λ (s : Option State.the_row.Denot).
    ‵ (StatePointer.the_row.own_val (record h { state = s }) vs)) found.1 refl $
    use1 𝓛 (‵ ((B E).own_val (box_of h found.0) vs)) (id⊢ 𝓤 _) $
    box_out E ! (box_of h found.0) vs (λ b o hv at_b ws fa.
    let lent : GName → MutBor State.the_row.Denot =
    λ γ'. record { ref_ptr = (b, o); ghost_name = γ'; now = found.0 } in
    move ! (1 ∷ 2 ∷ []) $ fjoin ! $ move !
    (1 ∷ []) $
    rewrite ! 2
    (λ (us : List Val). ‵ (cell_at full_share StatePointer.the_row.mir us rb ro))
    ws refl $
    sets ! (of_opd !
    (load ! (through ! refl (fld ! refl (stop !))) (look_in ! 2 (sub ! 0 refl (whole !))))) refl
    (tt, tt) $
    sets ! (of_opd ! (get ! refl)) refl (tt, tt) $
    first ! $ blocks ! $ sets_last ! (addr ! (through ! refl (stop !))) refl (tt, tt) $
    exec ! 𝓣.C 𝓣.Λ (env code.Mir.locals l) code.Mir.t-4 (at_ret _ (W.post z)) $
    sets ! (of_opd ! (get ! refl)) refl (tt, tt) $
    move ! (1 ∷ 2 ∷ []) $ fjoin ! $ move ! (2 ∷ 3 ∷ 4 ∷ 1 ∷ 0 ∷ []) $ group ! 5 $
    use1 𝓛 (later (some (λ (γ' : GName).
    ‵ ((MutRef (named 0) κ State.the_row).own_val (lent γ') (vptr b o ∷ [])) ⊛ ‵ (flft κ q)
    ⊛ ‵ (follows StatePointer.the_row State.the_row γ γ' (with_state h)))))
    (lends_Part 𝓛 StatePointer.the_row State.the_row (with_state h) (named 0) κ q rb ro b o γ
    (sem 𝓛 (Rest 𝓛 h rb ro b o hv)) (back 𝓛 h rb ro b o hv at_b) (StatePointer.the_row.coded.code h)
    (StatePointer.the_row.coded.code h) found.0) $ await ! tt $ pick ! (λ γ'.
    returns ! (look_at ! 0 refl) $ free_all ! refl $ split3 ! $
    suffices ! _ (ends_at 𝓛 F.ended stayed c z (vptr b o) (lent γ') (tt, tt) (tt, tt)) $
    keep ! (0 ∷ 1 ∷ 2 ∷ []) $ nothing ! $ nothing ! $ fjoin ! $ join ! $ nothing ! $
    move ! (2 ∷ 0 ∷ []) $ join ! $ join ! $ frame ! $ says ! found.1 $ done !))))))
