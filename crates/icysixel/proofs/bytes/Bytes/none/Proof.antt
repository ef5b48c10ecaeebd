-- `none` makes a null pointer with no capacity, beside which nothing is owned.
use Rattle.icysixel.proofs.Steps
use Steps.{[], ◌∷◌, refl, lit<, w64, arith, proved, emp, raw, ◌$◌, ◌∵◌, !, qed, drop, join, fjoin}
use Steps.{suffices, done, agg, no_more, and_then, of_opd, lit, returns, enter, alloc_all, pass_all}
use Steps.{free_all, look_at, get, sets, yes, null_ptr, nothing, on_entry, says, Stays}
use Steps.{stay_dropped, walk_of, ends_at, Goes-dropped}
use mir.Val.{Fits}
use Rattle.std_heap.proofs.Global.TheLaws as heap
use Rattle.icysixel.proofs.{AsBox.FromHeap as From, AsBytes.fields_in}
use Rattle.icysixel.proofs.bytes.Bytes.none.Statement.{statement}
use Rattle.icysixel.specs.contracts.bytes.Bytes as Bytes
use Rattle.icysixel.proofs.bytes.Bytes.TheLaws as laws
use Rattle.icysixel.specs.contracts.bytes.Bytes.none as F
use Rattle.icysixel.proofs.bytes.Bytes.none.Code as code

abbrev stayed : Stays (F.ended).signature.params (F.ended).kept
stayed = (stay_dropped From yes, tt)

pub none_spec : {M : Type 1} → statement M
none_spec 𝓤 𝓛 𝓜 𝓡 wired =
    let c = F.clauses 𝓛 𝓜.mem 𝓡.returns in
    let W = walk_of 𝓛 F.ended stayed c in
    proved 𝓛 F.ended stayed c 𝓜 𝓡 (Goes-dropped 𝓛 0 From yes (λ κs x f. refl), tt)
    F.Key.name code.function (code.unfolded 𝓤 𝓛.H 𝓜 𝓡 wired)
    (λ κs. (λ h. heap.lowered h ∷ [], tt)) (λ κs. (heap.lowers.val_is, tt))
    (λ κs qs bounds a g are.
    let z : W.Ghost = ((κs, qs, bounds, a, (heap.lowered a.0 ∷ [], tt)), tt) in
    let made : Bytes.the_row.Denot = record {
      at = null_ptr;
      len = 0;
      capacity = 0;
      alloc = a.0;
      items = [];
      fit = (refl, omega arith);
    } in
    let zero : Fits w64 0 = record { fits = lit< tt } in
    qed 𝓛 (raw (on_entry 𝓛 F.signature κs qs a z.0.4) ∷ raw (emp 𝓤) ∷ []) ∵ drop ! $ drop ! $
    enter ! _ _ _ _ _ $ alloc_all ! (λ l. pass_all ! refl ((tt, ((tt, tt), tt)), tt) $
    sets ! (of_opd ! (lit ! tt)) refl (tt, zero) $
    sets ! (agg ! (and_then ! (get ! refl)
    (and_then ! (lit ! tt) (and_then ! (lit ! tt) (and_then ! (get ! refl) (no_more !)))))) refl
    (tt, (zero, (zero, (zero, (((tt, tt), tt), tt))))) $
    returns ! (look_at ! 0 refl) $ free_all ! refl $
    suffices ! _ (ends_at 𝓛 F.ended stayed c z (laws.lowered made) made (tt, tt) (tt, tt)) $
    says ! (refl, (refl, (refl, refl))) $ nothing ! $ fields_in ! made (lit< tt) (lit< tt) $
    fjoin ! $
    nothing ! $ nothing ! $ fjoin ! $ join ! $ nothing ! $ join ! $ done !))
