-- What `draw` writes for the files that are named: the output of each, in their order. The order
-- and the statuses are this program's own. The content of a file is known where the host states it.
use Rattle.std.specs.Prelude.{◌≡◌, ◌⊎◌, ℕ, zero, suc, max, List, [], ◌∷◌, ◌++◌, IfSome, Option}
use Rattle.std.specs.Prelude.{Some, None}
use Rattle.sixel.specs.{Ending.{Ending, Done}, Options.Stated, WorkOutput.{Begins, IsPictureOutput}}
use Rattle.sixel.specs.declared.picture.PictureWord.TheVariants.{Draw}

-- what a file adds to the output: with status 0 the whole output, else nothing or a beginning
abbrev pub IsFileOutput : (List ℕ → Ending → Type 0) → List ℕ → ℕ → Type 0
IsFileOutput IsText text zero = IsText text Done
IsFileOutput IsText text (suc _) = (text ≡ []) ⊎ Begins IsText text

-- what the files of these names add, one after another, and the greatest status
abbrev pub AreFileOutputs : (List ℕ → Option (List ℕ)) → (List ℕ → List ℕ → Ending → Type 0)
    → List (List ℕ) → List ℕ → ℕ → Type 0
AreFileOutputs content IsText [] text status = (text ≡ []) × (status ≡ 0)
AreFileOutputs content IsText (name ∷ names) text status =
    (first rest : List ℕ) × (one others : ℕ)
    × IfSome (content name) (λ bytes. IsFileOutput (IsText bytes) first one)
    × AreFileOutputs content IsText names rest others
    × (text ≡ first ++ rest) × (status ≡ max one others)

-- the palette file of this path has this content, which is empty without a path
abbrev pub IsPaletteAt : (List ℕ → Option (List ℕ)) → Option (List ℕ) → List ℕ → Type 0
IsPaletteAt content None palette = palette ≡ []
IsPaletteAt content (Some path) palette = IfSome (content path) (λ bytes. palette ≡ bytes)

-- what the arguments after `draw` add to the output: nothing if the palette file cannot be read
abbrev pub AreDrawn : (List ℕ → Option (List ℕ)) → Stated → List ℕ → ℕ → Type 0
AreDrawn content stated text status =
    ((text ≡ []) × (status ≡ 1))
    ⊎ ((palette : List ℕ) × IsPaletteAt content stated.path palette
    × AreFileOutputs content (IsPictureOutput (Draw stated.options) palette) stated.files text
    status)
