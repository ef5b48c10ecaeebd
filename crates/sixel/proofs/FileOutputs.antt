-- What files add to the output: those before a file, and that one.
use Rattle.std.proofs.Common.{◌≡◌, ◌++◌, ℕ, List, [], ◌∷◌, IfSome, Option, Some, None, Err}
use Rattle.std.proofs.Common.{append_assoc, append-nil, arith, max, refl, sym, inl, inr}
use Rattle.std.specs.Io.KnownBytes.{Appends}
use Rattle.sixel.specs.{Ending.{Ending, Done, Refused, Unreadable}, Files.AreFileOutputs}
use Rattle.sixel.specs.{Files.IsFileOutput, WorkOutput.{Begins, ServesPicture, Writes}}
use Rattle.sixel.specs.declared.fault.Fault.TheVariants.{Sixel, Input, Output}
use Rattle.sixel.specs.declared.fault.PictureFault.{PictureFault}
use Rattle.sixel.specs.declared.fault.PictureFault.TheVariants.{Shared, Netpbm}

-- one file more adds its bytes, and the greatest status goes on
pub file_more : (content : List ℕ → Option (List ℕ)) (IsText : List ℕ → List ℕ → Ending → Type 0)
    (names : List (List ℕ)) (name text first : List ℕ) (status one now : ℕ)
    → AreFileOutputs content IsText names text status
    → IfSome (content name) (λ bytes. IsFileOutput (IsText bytes) first one)
    → now ≡ max status one
    → AreFileOutputs content IsText (names ++ name ∷ []) (text ++ first) now
file_more content IsText [] name text first status one now (none, zero) adds is =
    (first, [], one, 0, adds, (refl, refl), rw none (sym (append-nil first)), omega arith)
file_more content IsText (other ∷ names) name text first status one now
    (before, rest, its, others, was, after, joined, greatest) adds is =
    let more = max others one in (
      before,
      rest ++ first,
      its,
      more,
      was,
      file_more content IsText names name rest first others one more after adds refl,
      rw joined (append_assoc before rest first),
      omega arith,
    )

-- a file that is not read adds nothing
pub adds_nothing : (content : Option (List ℕ)) (IsText : List ℕ → List ℕ → Ending → Type 0)
    → IfSome content (λ bytes. IsFileOutput (IsText bytes) [] 1)
adds_nothing None IsText = tt
adds_nothing (Some bytes) IsText = inl refl

-- the whole output for the bytes that were read
pub adds_whole : (content : Option (List ℕ)) (IsText : List ℕ → List ℕ → Ending → Type 0)
    (bytes : List ℕ) (a b : Option (List ℕ)) → IfSome content (λ all. bytes ≡ all)
    → Writes (λ text. IsText bytes text Done) a b
    → (text : List ℕ) × Appends a b text × IfSome content (λ all. IsFileOutput (IsText all) text 0)
adds_whole None IsText bytes a b same (text, is, grown) = (text, grown, tt)
adds_whole (Some all) IsText bytes a b same (text, is, grown) = (text, grown, rw (← same) is)

-- a beginning of it
begun : (content : Option (List ℕ)) (IsText : List ℕ → List ℕ → Ending → Type 0)
    (bytes text : List ℕ) → IfSome content (λ all. bytes ≡ all) → Begins (IsText bytes) text
    → IfSome content (λ all. IsFileOutput (IsText all) text 1)
begun None IsText bytes text same begins = tt
begun (Some all) IsText bytes text same (rest, ending, is) = inr (rest, ending, rw (← same) is)

-- what was written before an error
pub adds_part : (A : Type 0) (fault : PictureFault) (content : Option (List ℕ))
    (IsText : List ℕ → List ℕ → Ending → Type 0) (bytes : List ℕ) (a b : Option (List ℕ))
    → IfSome content (λ all. bytes ≡ all) → ServesPicture {A = A} (Err fault) (IsText bytes) a b
    → (text : List ℕ) × Appends a b text × IfSome content (λ all. IsFileOutput (IsText all) text 1)
adds_part A (Shared (Sixel e)) content IsText bytes a b same (text, is, grown) =
    (text, grown, begun content IsText bytes text same ([], Refused e, rw (append-nil text) is))
adds_part A (Shared Input) content IsText bytes a b same served = grind (arith)
adds_part A (Shared Output) content IsText bytes a b same (text, begins, grown) =
    (text, grown, begun content IsText bytes text same begins)
adds_part A (Netpbm e) content IsText bytes a b same (text, is, grown) =
    (text, grown, begun content IsText bytes text same ([], Unreadable e, rw (append-nil text) is))
