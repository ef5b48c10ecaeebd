-- `of_parts` moves three words, and what the vector beside them owns goes with them.
use Rattle.icysixel.proofs.Steps
use Steps.{ℕ, [], ◌∷◌, refl, sym, ◌∙◌, arith, Goes-blank, proved, Ptr-Good, emp, ftrue, fsep, ‵}
use Steps.{raw, ◌⊛◌, ◌$◌, ◌∵◌, !, qed, keep, drop, join, split, rewrite, fsplit, fjoin, fpick}
use Steps.{suffices, done, whole, sub, agg, stop, fld, no_more, and_then, of_opd, returns, enter}
use Steps.{alloc_all, pass_all, free_all, look_at, get, get_in, sets, yes, Ptr, Slot, plain}
use Steps.{nothing, says, Stays, stay_dropped, walk_of, ends_at}
use Rattle.std_alloc.proofs.{ResultValues.and_tt, VecSteps.Opens.vec_had}
use Rattle.icysixel.specs.inside.Bytes.{bytes_own}
use Rattle.icysixel.proofs.{AsBytes.E, AsBytes.fields_in, bytes.Bytes.of_parts.Statement.statement}
use Rattle.icysixel.specs.contracts.bytes.vec_parts.VecParts as VecParts
use Rattle.icysixel.proofs.bytes.vec_parts.VecParts.TheLaws as given
use Rattle.icysixel.specs.contracts.bytes.Bytes as Bytes
use Rattle.icysixel.proofs.bytes.Bytes.TheLaws as laws
use Rattle.icysixel.specs.contracts.bytes.Bytes.of_parts as F
use Rattle.icysixel.proofs.bytes.Bytes.of_parts.Code as code

abbrev From : Slot 0
From = plain (λ _. VecParts.the_row)

abbrev stayed : Stays (F.ended).signature.params (F.ended).kept
stayed = (stay_dropped From yes, tt)

pub of_parts_spec : {M : Type 1} → statement M
of_parts_spec 𝓤 𝓛 𝓜 𝓡 wired =
    let c = F.clauses 𝓛 𝓜.mem 𝓡.returns in
    let W = walk_of 𝓛 F.ended stayed c in
    proved 𝓛 F.ended stayed c 𝓜 𝓡 (Goes-blank 𝓛 0 From yes (λ κs x f. tt), tt)
    F.Key.name code.function (code.unfolded 𝓤 𝓛.H 𝓜 𝓡 wired)
    (λ κs. (λ m. given.lowered m ∷ [], tt)) (λ κs. (given.lowers.val_is, tt))
    (λ κs qs bounds a g are.
    let m : VecParts.the_row.Denot = a.0 in
    let v = m.bytes.value in
    let typed = ((given.the_row_laws.lawful 𝓛).typed m _ are.0).0 in
    let fn = are.0.1.1.1.0.1 in
    let fc = are.0.1.1.1.1.0.1 in
    let at = Ptr-Good m.at in
    let z : W.Ghost = ((κs, qs, bounds, a, (given.lowered m ∷ [], tt)), tt) in
    let made : Bytes.the_row.Denot = record {
      at = m.at;
      len = m.len;
      capacity = m.capacity;
      alloc = m.alloc;
      items = v.items;
      fit = (m.counts ∙ v.ok.0, omega (arith, m.counts, m.holds, v.ok.1));
    } in
    qed 𝓛 ((‵ ftrue ⊛ ‵ (fsep (VecParts.the_row.own_val m z.0.4.0) ftrue)) ∷ raw (emp 𝓤) ∷ []) ∵
    split ! $ drop ! $ fsplit ! $ fpick ! (λ vss. fsplit ! $ drop ! $ fsplit ! $ drop ! $
    fsplit ! $ drop ! $ fsplit ! $ drop ! $ fsplit ! $ drop ! $ fsplit ! $
    fpick ! (λ us. fsplit ! $ drop ! $ fsplit ! $
    vec_had E ! v us.0 (λ b o hv e is l k fit fa. keep ! (0 ∷ []) $
    rewrite ! 0 (λ (t : Ptr × (ℕ × ℕ)). ‵ (bytes_own m.alloc t.0 t.1.0 t.1.1 v.items))
    (λ j. (sym (m.begins ∙ e) j, (sym m.counts j, sym m.holds j))) refl $
    enter ! _ _ _ _ _ $ alloc_all ! (λ l. pass_all ! refl (typed, tt) $
    sets ! (of_opd ! (get_in ! (fld ! refl (stop !)) (sub ! 0 refl (whole !)))) refl at $
    sets ! (of_opd ! (get_in ! (fld ! refl (stop !)) (sub ! 1 refl (whole !)))) refl
    (tt, record { fits = fn }) $
    sets ! (of_opd ! (get_in ! (fld ! refl (stop !)) (sub ! 2 refl (whole !)))) refl
    (tt, record { fits = fc }) $
    sets ! (of_opd ! (get_in ! (fld ! refl (stop !)) (sub ! 3 refl (whole !)))) refl
    (tt, ((tt, tt), tt)) $
    sets ! (agg ! (and_then ! (get ! refl)
    (and_then ! (get ! refl) (and_then ! (get ! refl) (and_then ! (get ! refl) (no_more !))))))
    refl
    (and_tt _ at.0, (at.1, (record { fits = fn }, (record { fits = fc }, (((tt, tt), tt), tt))))) $
    returns ! (look_at ! 0 refl) $ free_all ! refl $
    suffices ! _ (ends_at 𝓛 F.ended stayed c z (laws.lowered made) made
    ((tt, (tt, (tt, (tt, ((tt, tt), tt))))), tt) (tt, tt)) $
    says ! refl $ fields_in ! made fn fc $ fjoin ! $
    nothing ! $ nothing ! $ fjoin ! $ join ! $ nothing ! $ join ! $ done !)))))
