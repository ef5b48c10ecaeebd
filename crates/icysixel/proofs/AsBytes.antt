-- A vector of bytes at the allocator that an export has, and the fields of a block.
use denote.{Param.Laws.of_field, Param.Shared.copy_shared, Struct.Field.u8-field}
use denote.Struct.Laws.{u8-laws, u8-copy}
use Rattle.std_alloc.proofs.VecSteps.El.{El}
use Rattle.icysixel.proofs.AsBox.{al}
use Rattle.icysixel.proofs.Steps
use Rattle.icysixel.specs.contracts.bytes.Bytes as Bytes
use Rattle.icysixel.proofs.bytes.Bytes.TheLaws as laws
use Steps.{ℕ, ◌<◌, ◌^◌, List, [], ◌∷◌, refl, Ura, Val, Logic, Item, Goal, Step, ‵, u8, Is}
use Steps.{RattleType, owned, shape, to, Struct, Struct-Makes}

abbrev pub E : El
E = record {
  row = u8;
  laws = of_field u8-field u8-laws refl (copy_shared u8-field u8-copy);
  al = al;
}

abbrev Fields : RattleType
Fields = Struct (shape Bytes.the_type)

-- the fields of a block own only facts
pub fields_in : {M : Type 1} {𝓤 : Ura M} {𝓛 : Logic 𝓤} {K : Type 0} {Γ : List (Item 𝓤)}
    {G : Goal 𝓤 𝓛.H} → K → (b : Bytes.the_row.Denot) → b.len < 2 ^ 64 → b.capacity < 2 ^ 64
    → Step K 𝓛 (‵ (Fields.own_val (to Bytes.the_type b) (laws.lowered b ∷ [])) ∷ Γ) G Γ G
fields_in {𝓛 = 𝓛} t b n c =
    let own_words : (x : ℕ) (vs : List Val) → Unit {0} × Unit {0} = λ x vs. (tt, tt) in
    owned t Fields (Is Fields) (Struct-Makes 𝓛 (shape Bytes.the_type)
    (λ x vs. tt, (own_words, (own_words, (λ x vs us. (tt, (λ ws. (tt, (tt, tt)), tt)), tt)))))
    (to Bytes.the_type b) (laws.lowered b ∷ [])
    (_, (refl, (refl, ((refl, n), ((refl, c), ((_, (refl, ((_, (refl, (refl, tt))), tt))), tt))))))
