-- `free` gives the block back to the allocator, where there is one.
use Rattle.std_alloc.proofs.{Flags.T_true, RawLayout.{as_raw, as_written}, VecSteps.El.{elτ, sz}}
use Rattle.std_alloc.proofs.VecSteps.Rows.{all_room}
use Rattle.std_alloc.specs.Vec.Ownership.{owns_if}
use Rattle.std.specs.Allocator.{array_of, block_with_items, HasLayout}
use Rattle.icysixel.proofs.{AsBytes.E, bytes.Bytes.free.Statement.statement}
use prog.{Capped.capped_is, Memory.capped, RawLaws.{size-raw, align-raw}}
use Rattle.icysixel.proofs.Steps
use mir.Raw.{raw as bare}
use Rattle.std_heap.proofs.GlobalAllocator.deallocate.Met as deallocates
use Rattle.std_heap.specs.contracts.GlobalAllocator.deallocate as DE
use Rattle.std_heap.specs.contracts.Global as Heap
use Rattle.icysixel.specs.contracts.bytes.Bytes as Bytes
use Rattle.icysixel.specs.contracts.bytes.Bytes.free as F
use Rattle.icysixel.proofs.bytes.Bytes.free.Code as code
use Rattle.icysixel.proofs.bytes.Bytes.TheLaws as laws
use Steps.{◌≡◌, ◌<◌, ◌+◌, ◌-◌, ◌*◌, ◌^◌, Bool, List, [], ◌∷◌, refl, sym, ap, ◌∙◌, lit<, w64, arith}
use Steps.{token, proved, Ptr-Good, subst, T, emp, never, id⊢, fst∗, ftrue, fsep, flft, froom}
use Steps.{named, ty_unit, ty_array, Ty, Val, vint, vunit, has_ty, WT, fact, fact_i, tables, sem}
use Steps.{Sq, ‵, raw, prop, at_ret, ◌⊛◌, some, later, ◌$◌, ◌∵◌, !, qed, move, keep, drop, use0}
use Steps.{use1, use2, join, split, rewrite, pick, await, fsplit, fjoin, feq_i, feq_l, suffices}
use Steps.{done, whole, sub, stop, fld, no_more, and_then, of_opd, lit, unit_lit, bin, first}
use Steps.{blocks, branches, skips, exec, returns, enter, alloc_all, pass_all, free_all, look_at}
use Steps.{get, get_in, sets, lands_last, env, u8, unit, usize, RefOf, yes, uint_Makes, Ptr}
use Steps.{null_ptr, ptr_val, in_a_block, room_for, ◌+ₚ◌, shr_vals, shr_Tells, Slot, plain, nothing}
use Steps.{only, owned, calls_at_last, triple_of, framed, Stays, stay_dropped, walk_of, ends_at}
use Steps.{Goes-dropped, lasts}

abbrev From : Slot 1
From = plain (λ _. Bytes.the_row)

abbrev By : Slot 1
By = RefOf (0 ∷ []) tt (plain (λ _. Heap.the_row)) (λ _. tt)

abbrev stayed : Stays (F.ended).signature.params (F.ended).kept
stayed = (stay_dropped From yes, (stay_dropped By yes, tt))

pub free_spec : {M : Type 1} → statement M
free_spec 𝓤 𝓛 𝓜 𝓡 wired =
    let c = F.clauses 𝓛 𝓜.mem 𝓡.returns in
    let W = walk_of 𝓛 F.ended stayed c in
    let 𝓣 = tables 𝓤 𝓛.H 𝓜 𝓡 𝓡.env in
    proved 𝓛 F.ended stayed c 𝓜 𝓡
    (Goes-dropped 𝓛 1 From yes (λ κs x f. refl), (Goes-dropped 𝓛 1 By yes (λ κs x f. refl), tt))
    F.Key.name code.function (code.unfolded 𝓤 𝓛.H 𝓜 𝓡 wired)
    (λ κs. (λ b. laws.lowered b ∷ [], (shr_vals, tt)))
    (λ κs. (laws.lowers.val_is, (shr_Tells (named 0) κs.0 Heap.the_row, tt)))
    (λ κs qs bounds a g are.
    let x : Bytes.the_row.Denot = a.0 in
    let κ = κs.0 in
    let q = qs.0 in
    let z : W.Ghost = ((κs, qs, bounds, a, (laws.lowered x ∷ [], (shr_vals a.1.0, tt))), tt) in
    let n = x.len in
    let cap = x.capacity in
    let typed = ((laws.the_row_laws.lawful 𝓛).typed x _ are.0).0 in
    let fc = are.0.0.1.1.1.1.0.1 in
    let τ : Ty = bare (ty_array (elτ E) cap) in
    let t = token E.al x.alloc in
    let G = triple_of 𝓛 DE.signature (DE.spec 𝓛 𝓜.mem 𝓡.returns) in
    let y : G.Ghost = (
      (
        κs,
        qs,
        bounds,
        (a.1.0, (x.at, (cap, (1, tt)))),
        (shr_vals a.1.0, (ptr_val x.at ∷ [], (vint w64 cap ∷ [], (vint w64 1 ∷ [], tt)))),
      ),
      τ,
    ) in
    let fits : cap * sz E < 2 ^ 64 = omega (arith, fc) in
    let same : cap * sz E ≡ cap = omega arith in
    let ends : Sq 𝓛 (‵ (flft κ q) ∷ []) (prop (W.post z vunit)) =
    suffices ! _ (ends_at 𝓛 F.ended stayed c z vunit tt (tt, (tt, tt)) (tt, (tt, tt))) $
    feq_i ! (List Val) (vunit ∷ []) (vunit ∷ []) refl $ nothing ! $ nothing ! $ fjoin ! $
    nothing ! $ fjoin ! $ join ! $ nothing ! $ move ! (2 ∷ 0 ∷ 1 ∷ []) $ join ! $ join ! $
    nothing ! $ move ! (1 ∷ 0 ∷ []) $ done ! in
    qed 𝓛 (((‵ (flft κ q) ⊛ ‵ ftrue) ⊛ ‵ (fsep (Bytes.the_row.own_val x z.0.4.0)
    (fsep ((By.row κs).own_val a.1.0 z.0.4.1.0) ftrue))) ∷ raw (emp 𝓤) ∷ []) ∵
    split ! $ split ! $ move ! (2 ∷ []) $ fsplit ! $ fsplit ! $ drop ! $ move ! (1 ∷ []) $
    fsplit ! $ fsplit ! $ move ! (1 ∷ []) $ keep ! (3 ∷ 0 ∷ 4 ∷ []) $
    enter ! _ _ _ _ _ $ alloc_all ! (λ l. pass_all ! refl (typed, ((tt, tt), tt)) $
    sets ! (of_opd ! (get_in ! (fld ! refl (stop !)) (sub ! 0 refl (whole !)))) refl
    (Ptr-Good x.at) $
    sets ! (of_opd ! (get_in ! (fld ! refl (stop !)) (sub ! 2 refl (whole !)))) refl
    (tt, record { fits = fc }) $
    sets ! (bin ! (get ! refl) (lit ! tt) tt) refl (tt, tt) $ first ! $ branches ! (get ! refl)
    (λ live.
    let whole_block = λ (p : Ptr). block_with_items t u8 p n cap x.items in
    rewrite ! 0 (λ (y : Bool). ‵ (owns_if y (whole_block x.at))) (T_true _ live) refl $
    in_a_block ! x.at whole_block (fst∗ 𝓤 (never 𝓤)
    (sem 𝓛 (fsep (room_for (array_of u8 (cap - n)) (null_ptr +ₚ n * 1)) (t τ null_ptr)))) (λ b o at.
    fsplit ! $ move ! (1 ∷ []) $ fsplit ! $ as_written ! (ty_array (elτ E) (cap - n)) b
    (o + n * sz E) $ move ! (2 ∷ 0 ∷ 1 ∷ []) $
    use2 𝓛 (‵ (froom (ty_array (elτ E) cap) b o)) (all_room E 𝓛 b o n cap x.items x.fit.1) $
    as_raw ! (ty_array (elτ E) cap) b o $ fjoin ! $
    rewrite ! 0 (λ (p : Ptr). ‵ (fsep (room_for τ p) (t τ p))) (sym at) refl $ blocks ! $
    use0 𝓛 (raw (fact 𝓤 (HasLayout τ cap 1))) (fact_i 𝓤 (HasLayout τ cap 1) (emp 𝓤) (
      ap capped (size-raw (ty_array (elτ E) cap)) ∙ (capped_is (cap * sz E) fits ∙ same),
      ap capped (align-raw (elτ E)),
    )) $ join ! $
    nothing ! $ owned ! usize _ (uint_Makes 𝓛 w64) 1 _ (refl, lit< tt) $ fjoin ! $
    owned ! usize _ (uint_Makes 𝓛 w64) cap _ (refl, fc) $ fjoin ! $
    feq_i ! (List Val) (ptr_val x.at ∷ []) _ refl $ fjoin ! $ move ! (2 ∷ []) $
    feq_i ! (List Val) (shr_vals a.1.0) _ refl $ fjoin ! $ fjoin ! $
    move ! (2 ∷ []) $ nothing ! $ move ! (1 ∷ 0 ∷ []) $ join ! $ join ! $ join ! $
    use1 𝓛 (raw (G.pre y)) (id⊢ 𝓤 _) $
    calls_at_last ! (framed 𝓤 𝓛.H 𝓜 𝓣) G (deallocates.met 𝓤 𝓛 𝓜 𝓡
    (code.calls-std_heap::GlobalAllocator::deallocate 𝓡.env wired)) y
    (and_then ! (get ! refl)
    (and_then ! (get ! refl) (and_then ! (get ! refl) (and_then ! (lit ! tt) (no_more !)))))
    (λ v.
    use1 𝓛 (later (some (λ (r : Unit {0}).
    ((‵ (flft κ q) ⊛ ‵ ftrue) ⊛ ‵ (unit.own_val r (v ∷ []))) ⊛ some
    (λ ws. ‵ (lasts DE.ended y.0.0 y.0.3 ws) ⊛ ‵ ftrue)))) (id⊢ 𝓤 _) $
    await ! tt $ pick ! (λ r. split ! $ split ! $ split ! $ move ! (2 ∷ []) $ feq_l ! (λ is_unit.
    move ! (1 ∷ 2 ∷ []) $ drop ! $ drop ! $
    lands_last ! refl
    (subst (λ (u : Val). T (has_ty ty_unit u) × WT u) (sym (ap only is_unit)) (tt, tt)) $
    exec ! 𝓣.C 𝓣.Λ (env code.Mir.locals l) code.Mir.t-5 (at_ret _ (W.post z)) $
    sets ! (of_opd ! (unit_lit !)) refl (tt, tt) $ returns ! (look_at ! 0 refl) $
    free_all ! refl $ ends)))))
    (λ none. drop ! $ drop ! $ skips ! $
    exec ! 𝓣.C 𝓣.Λ (env code.Mir.locals l) code.Mir.t-5 (at_ret _ (W.post z)) $
    sets ! (of_opd ! (unit_lit !)) refl (tt, tt) $ returns ! (look_at ! 0 refl) $
    free_all ! refl $ ends)))
