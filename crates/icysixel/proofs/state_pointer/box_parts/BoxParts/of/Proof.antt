-- `of` takes the box apart, and the parts own what it owned.
use mir.{MapTy.inst_fn, Syntax.{Args, Fn, a_type, dcons, dnil}}
use contract.BorrowLft.{◌⊑◌}
use denote.{Param.bounded, Struct.Tuple.Tuple, Triple.Clauses.Ended}
use Rattle.std_alloc.proofs.BoxSteps.Form.{Bx, D, τ, R, P, B, word, box_typed}
use Rattle.std_alloc.{proofs.BoxSteps.Steps.{box_out, box_in}, specs.Box.Ownership.box_owns}
use Rattle.icysixel.proofs.state_pointer.box_parts.BoxParts.of.Statement.{statement}
use Rattle.icysixel.proofs.Steps
use mir.Raw.{raw as bare}
use Rattle.icysixel.specs.contracts.state_pointer.box_parts.BoxParts as parts
use Rattle.std_alloc.specs.contracts.boxed.Box.into_raw_with_allocator as Ra
use Rattle.std_alloc.proofs.boxed.Box.into_raw_with_allocator.Met as raw_met
use Rattle.icysixel.specs.contracts.state_pointer.box_parts.BoxParts.of as F
use Rattle.icysixel.proofs.state_pointer.box_parts.BoxParts.of.Code as code
use Steps.{◌≡◌, List, [], ◌∷◌, ◌++◌, refl, ap, ◌∙◌, token, Goes-blank, handle_tells, proved_at}
use Steps.{never, id⊢, fst∗, ftrue, fsep, flft, Val, vstruct, of_list, fact, tables, WpFn, sem}
use Steps.{Item, ‵, raw, prop, ◌⊛◌, some, later, ◌$◌, ◌∵◌, !, qed, move, drop, use1, join, split}
use Steps.{split3, regoal, rewrite, pick, await, fsplit, fjoin, fpick, feq_l, suffices, done, whole}
use Steps.{sub, agg, stop, fld, no_more, and_then, of_opd, returns, enter, alloc_all, pass_all}
use Steps.{free_all, look_at, get, get_in, sets, lands_as, no, Ptr, RawPtr, block_ptr, null_ptr}
use Steps.{ptr_val, in_a_block, Slot, plain, heard, nothing, only, calls_at, triple_of, framed}
use Steps.{says, Stays, stay_dropped, walk_of, ends_at}

pub of_spec : {M : Type 1} → statement M
of_spec 𝓤 𝓛 𝓜 𝓡 wired X Z LX LZ g d dd dx allocator md glue =
    let E : Bx = record {
      row = X;
      laws = LX;
      al = record { row = Z; laws = LZ; g = g; d = d; drops = dd };
    } in
    let From : Slot 2 = plain (λ _. B E) in
    let To = parts.the_row (R E) (P E) g in
    let args : Args =
    bounded (a_type ∷ a_type ∷ []) (X, (Z, tt)) (dcons d (dcons dd (dcons dx dnil))) in
    let fn : Fn = inst_fn args code.function in
    let ended : Ended = F.ended X Z g d dd dx in
    let stayed : Stays ended.signature.params ended.kept = (stay_dropped From no, tt) in
    let c = F.clauses X Z g d dd dx 𝓛 𝓜.mem 𝓡.returns in
    let W = walk_of 𝓛 ended stayed c in
    let 𝓣 = tables 𝓤 𝓛.H 𝓜 𝓡 𝓡.env in
    let G = triple_of 𝓛 (Ra.signature X Z g d dd dx) (Ra.spec X Z g d dd dx 𝓛 𝓜.mem 𝓡.returns) in
    proved_at 𝓛 ended stayed c 𝓜 𝓡 (Goes-blank 𝓛 2 From no (λ κs x f. tt), tt)
    (F.Key.name args) fn (code.unfolded 𝓤 𝓛.H 𝓜 𝓡 wired (X, (Z, tt)) d dd dx) (λ z are.
    let κs = z.0.0 in
    let qs = z.0.1 in
    let v : D E = z.0.3.0 in
    let a = v.alloc in
    let ts : Item 𝓤 = ‵ (flft κs.0 qs.0) ⊛ ‵ (flft κs.1.0 qs.1.0) ⊛ ‵ ftrue in
    qed 𝓛 ((ts ⊛ ‵ (fsep ((B E).own_val v z.0.4.0) ftrue)) ∷ (raw (fact 𝓤 (κs.0 ⊑ X.lives))
    ⊛ raw (fact 𝓤 (κs.1.0 ⊑ Z.lives)) ⊛ ‵ ftrue) ∷ []) ∵ split ! $ move ! (1 ∷ []) $ fsplit ! $
    box_out E ! v z.0.4.0 (λ b o hv e ws fa. box_in E ! v b o v.value e refl $
    let w = word E hv b o in
    let y : G.Ghost = ((κs, qs, tt, (v, tt), (w ∷ [], tt)), tt) in
    regoal ! (λ (us : List Val). prop (WpFn 𝓤 𝓛.H 𝓣.C 𝓣.Λ fn (us ++ []) (W.post z))) ws refl $
    enter ! _ _ _ _ _ $ alloc_all ! (λ l. pass_all ! refl (box_typed E hv b o fa, tt) $
    sets ! (of_opd ! (get ! refl)) refl (box_typed E hv b o fa) $
    fjoin ! $ move ! (1 ∷ 0 ∷ []) $ join ! $ join ! $ use1 𝓛 (raw (G.pre y)) (id⊢ 𝓤 _) $
    calls_at ! (framed 𝓤 𝓛.H 𝓜 𝓣) G (raw_met.met 𝓤 𝓛 𝓜 𝓡
    (code.calls-std_alloc::boxed::Box::into_raw_with_allocator 𝓡.env wired) X Z LX LZ g d dd dx
    allocator md glue) y (and_then ! (get ! refl) (no_more !)) (λ u.
    use1 𝓛 (later (some (λ (r : Ptr × Z.Denot).
    (ts ⊛ ‵ ((Tuple (RawPtr ∷ P E ∷ [])).own_val r (u ∷ []))) ⊛ some
    (λ (_ : (Unit {0} × (Unit {0} × Unit {0})) × Unit {0}).
    ‵ (fsep (fsep ftrue (fsep ftrue ftrue)) ftrue) ⊛
    (raw (fact 𝓤 (r.1 ≡ a)) ⊛ ‵ (box_owns (token E.al a) (R E) r.0 v.value)))))) (id⊢ 𝓤 _) $
    await ! tt $ pick ! (λ r. split ! $ move ! (1 ∷ []) $ pick ! (λ _. split3 ! $ drop ! $
    heard ! (r.1 ≡ a) (λ ea.
    in_a_block ! r.0
    (λ p. box_owns (token E.al a) (R E) p v.value)
    (fst∗ 𝓤 (never 𝓤) (sem 𝓛 (token E.al a (bare (τ E)) null_ptr))) (λ b' o' e'.
    move ! (1 ∷ []) $ split ! $ move ! (1 ∷ []) $ fpick ! (λ vss. fsplit ! $ feq_l ! (λ eu.
    fsplit ! $ feq_l ! (λ ep. fsplit ! $
    rewrite ! 0 (λ (s : Z.Denot). ‵ (Z.own_val s vss.1.0)) ea refl $
    handle_tells E.al ! a vss.1.0 (λ hw eh fw.
    let made : To.Denot = record { ptr = block_ptr b' o'; alloc = a; value = v.value } in
    lands_as ! (ap only (eu
    ∙ (λ j.
    vstruct (of_list ((ep ∙ ap (λ (p : Ptr). ptr_val p ∷ []) e') j ++ (eh j ++ []))) ∷ [])))
    refl (box_typed E hw b' o' fw) $
    sets ! (of_opd ! (get_in ! (fld ! refl (stop !)) (sub ! 0 refl (whole !)))) refl (tt, tt) $
    sets ! (of_opd ! (get_in ! (fld ! refl (stop !)) (sub ! 1 refl (whole !)))) refl fw $
    sets ! (of_opd ! (get ! refl)) refl fw $
    sets ! (agg ! (and_then ! (get ! refl) (and_then ! (get ! refl) (no_more !)))) refl
    (box_typed E hw b' o' fw) $ returns ! (look_at ! 0 refl) $ free_all ! refl $
    -- [the handle; true; the tokens; the value with its token]
    move ! (3 ∷ []) $ fsplit ! $
    box_in E ! (record { ptr = block_ptr b' o'; alloc = a; value = v.value }) b' o' v.value refl
    refl $ move ! (1 ∷ []) $ drop ! $
    suffices ! _
    (ends_at 𝓛 ended stayed c z (word E hw b' o') made ((tt, (tt, tt)), tt) (tt, tt)) $
    says ! refl $ nothing ! $ nothing ! $ fjoin ! $ join ! $ move ! (1 ∷ 0 ∷ []) $ join ! $
    done !))))))))))))
