-- `into_box` hands what the parts own to `from_raw`.
use mir.{MapTy.inst_fn, Syntax.Fn}
use contract.BorrowLft.{◌⊑◌}
use denote.Triple.Clauses.{Ended}
use Rattle.std_alloc.proofs.BoxSteps.{Form.{Bx, D, R, P, B, args, box_ty, box_typed}, Steps.box_out}
use Rattle.std_alloc.proofs.BoxSteps.Steps.{box_in}
use Rattle.icysixel.proofs.state_pointer.box_parts.BoxParts.into_box.Statement.{statement}
use Rattle.icysixel.proofs.Steps
use Rattle.icysixel.specs.contracts.state_pointer.box_parts.BoxParts as parts
use Rattle.std_alloc.specs.contracts.boxed.Box.from_raw as Fr
use Rattle.std_alloc.proofs.boxed.Box.from_raw.Met as raw_met
use Rattle.icysixel.specs.contracts.state_pointer.box_parts.BoxParts.into_box as F
use Rattle.icysixel.proofs.state_pointer.box_parts.BoxParts.into_box.Code as code
use Steps.{◌≡◌, List, [], ◌∷◌, ◌++◌, refl, sym, ap, Goes-blank, proved_at, subst, T, id⊢, ftrue}
use Steps.{fsep, flft, Val, vptr, has_ty, WT, fact, tables, WpFn, Item, ‵, raw, prop, at_ret, ◌⊛◌}
use Steps.{some, later, ◌$◌, ◌∵◌, !, qed, move, drop, use1, join, split, split3, regoal, rewrite}
use Steps.{pick, await, fsplit, fjoin, feq_i, suffices, done, whole, sub, stop, fld, no_more}
use Steps.{and_then, of_opd, first, blocks, exec, returns, enter, alloc_all, pass_all, free_all}
use Steps.{look_at, get, get_in, sets, lands_last, env, no, block_ptr, Slot, plain, heard, nothing}
use Steps.{only, calls_at_last, triple_of, framed, says, Stays, stay_dropped, walk_of, ends_at}

pub into_box_spec : {M : Type 1} → statement M
into_box_spec 𝓤 𝓛 𝓜 𝓡 wired X Z LX LZ g d dd allocator md =
    let E : Bx = record {
      row = X;
      laws = LX;
      al = record { row = Z; laws = LZ; g = g; d = d; drops = dd };
    } in
    let From : Slot 2 = plain (λ _. parts.the_row (R E) (P E) g) in
    let fn : Fn = inst_fn (args E) code.function in
    let ended : Ended = F.ended X Z g d dd in
    let stayed : Stays ended.signature.params ended.kept = (stay_dropped From no, tt) in
    let c = F.clauses X Z g d dd 𝓛 𝓜.mem 𝓡.returns in
    let W = walk_of 𝓛 ended stayed c in
    let 𝓣 = tables 𝓤 𝓛.H 𝓜 𝓡 𝓡.env in
    let G = triple_of 𝓛 (Fr.signature X Z g d dd) (Fr.spec X Z g d dd 𝓛 𝓜.mem 𝓡.returns) in
    proved_at 𝓛 ended stayed c 𝓜 𝓡 (Goes-blank 𝓛 2 From no (λ κs x f. tt), tt)
    (F.Key.name (args E)) fn (code.unfolded 𝓤 𝓛.H 𝓜 𝓡 wired (X, (Z, tt)) d dd) (λ z are.
    let κs = z.0.0 in
    let qs = z.0.1 in
    let a = z.0.3.0.alloc in
    let x = z.0.3.0.value in
    let v : D E = record { ptr = z.0.3.0.ptr; alloc = a; value = x } in
    let ts : Item 𝓤 = ‵ (flft κs.0 qs.0) ⊛ ‵ (flft κs.1.0 qs.1.0) ⊛ ‵ ftrue in
    let in_x : Item 𝓤 = raw (fact 𝓤 (κs.0 ⊑ X.lives)) in
    let in_a : Item 𝓤 = raw (fact 𝓤 (κs.1.0 ⊑ Z.lives)) in
    qed 𝓛 ((ts ⊛ ‵ (fsep ((B E).own_val v z.0.4.0) ftrue)) ∷ (in_x ⊛ in_a ⊛ ‵ ftrue) ∷ []) ∵
    split ! $ move ! (1 ∷ []) $ fsplit ! $
    box_out E ! v z.0.4.0 (λ b o hv e ws fa. fjoin ! $
    let y : G.Ghost = (
      (κs, qs, tt, (a, (block_ptr b o, tt)), (hv ∷ [], (vptr b o ∷ [], tt))),
      x,
    ) in
    regoal ! (λ (us : List Val). prop (WpFn 𝓤 𝓛.H 𝓣.C 𝓣.Λ fn (us ++ []) (W.post z))) ws refl $
    enter ! _ _ _ _ _ $ alloc_all ! (λ l. pass_all ! refl (box_typed E hv b o fa, tt) $
    sets ! (of_opd ! (get_in ! (fld ! refl (stop !)) (sub ! 0 refl (whole !)))) refl (tt, tt) $
    sets ! (of_opd ! (get_in ! (fld ! refl (stop !)) (sub ! 1 refl (whole !)))) refl fa $
    first ! $ blocks ! $ sets ! (of_opd ! (get ! refl)) refl fa $
    move ! (4 ∷ []) $ split3 ! $ move ! (2 ∷ []) $ drop ! $ move ! (1 ∷ 2 ∷ []) $ join ! $ move
    ! (1 ∷ 0 ∷ []) $ join ! $
    -- [what it requires; the handle; true; the tokens]
    move ! (2 ∷ []) $ feq_i ! (List Val) (vptr b o ∷ []) (vptr b o ∷ []) refl $ fjoin ! $ move !
    (2 ∷ 0 ∷ []) $ fjoin ! $ move ! (2 ∷ 0 ∷ []) $ join ! $ join ! $ use1 𝓛 (raw (G.pre y))
    (id⊢ 𝓤 _) $
    calls_at_last ! (framed 𝓤 𝓛.H 𝓜 𝓣) G (raw_met.met 𝓤 𝓛 𝓜 𝓡
    (code.calls-std_alloc::boxed::Box::from_raw 𝓡.env wired) X Z LX LZ g d dd allocator md) y
    (and_then ! (get ! refl) (and_then ! (get ! refl) (no_more !))) (λ u.
    use1 𝓛 (later (some (λ (r : D E).
    (ts ⊛ ‵ ((B E).own_val r (u ∷ []))) ⊛ some
    (λ (_ : Unit {0} × (Unit {0} × Unit {0})).
    ‵ (fsep ftrue (fsep ftrue ftrue)) ⊛
    (raw (fact 𝓤 (r.value ≡ x)) ⊛ raw (fact 𝓤 (r.alloc ≡ a))))))) (id⊢ 𝓤 _) $
    await ! tt $ pick ! (λ r. split ! $ move ! (1 ∷ []) $ pick ! (λ _. split3 ! $ drop ! $ heard
    ! (r.value ≡ x) (λ same. drop ! $ split ! $ move ! (1 ∷ []) $
    box_out E ! r (u ∷ []) (λ b' o' hw e' wu fw. box_in E ! r b' o' r.value e' refl $
    rewrite ! 0 (λ (us : List Val). ‵ ((B E).own_val r us)) (sym wu) refl $
    let typed = subst (λ (s : Val). T (has_ty (box_ty E) s) × WT s) (sym (ap only wu))
    (box_typed E hw b' o' fw) in
    lands_last ! refl typed $
    exec ! 𝓣.C 𝓣.Λ (env fn.locals l) code.Mir.t-4 (at_ret _ (W.post z)) $
    sets ! (of_opd ! (get ! refl)) refl typed $ returns ! (look_at ! 0 refl) $ free_all ! refl $
    suffices ! _ (ends_at 𝓛 ended stayed c z u r ((tt, (tt, tt)), tt) (tt, tt)) $
    says ! same $ nothing ! $ nothing ! $ fjoin ! $ join ! $ move ! (1 ∷ 0 ∷ []) $ join ! $
    done !))))))))
