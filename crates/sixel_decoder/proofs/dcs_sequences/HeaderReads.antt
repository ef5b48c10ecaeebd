-- How far a header has been read, and what stands where it ends.
use Rattle.std.proofs.Common.{◌≡◌, ℕ, ◌+◌, ◌<◌, ◌≤◌, true, false, List, [], ◌∷◌, ◌++◌, length}
use Rattle.std.proofs.Common.{get_or, drop, append_assoc, arith, refl}
use Rattle.std.proofs.{lemmas.Bool.Decides.nat_tests, lemmas.List.{append-nil, drop_all}}
use Rattle.std.specs.Prelude.{IsSomeAnd}
use Rattle.sixel_base.specs.{declared.error.SixelError.SixelError, Bytes.carrying, Fault.IsFault}
use Rattle.sixel_base.specs.{inside.Parameters.{Parameters, Keeps}, Header.{Open, Begun, headed}}
use Rattle.sixel_base.specs.Header.{is_header, header_rest, header_text, command_fault}
use Rattle.sixel_decoder.specs.inside.Header.{IsHeaderFault}
use Rattle.sixel_decoder.proofs.{chunks.Places.splits_at, dcs_sequences.Headers.header_rest-open}
use Rattle.sixel_decoder.proofs.dcs_sequences.Headers.{header_text-one, header_text-open}

-- Of a header the bytes before this index were read, which have this text; the rest of the header
-- is ahead.
pub record ReadsHeader (parameters : Parameters) (index : ℕ) (bytes : List ℕ) : Type 0 where
  pub read : List ℕ
  pub keeps : Keeps parameters read
  pub ahead : read ++ header_text (drop index bytes) ≡ header_text bytes
  pub rest : header_rest (drop index bytes) ≡ header_rest bytes

-- a byte that the header goes on with
pub reads_on : (old new : Parameters) (index : ℕ) (bytes : List ℕ) → index < length bytes
    → (r : ReadsHeader old index bytes) → is_header (get_or bytes index 0) ≡ true
    → Keeps new (r.read ++ carrying (get_or bytes index 0 ∷ [])) → ReadsHeader new (index + 1) bytes
reads_on old new index bytes within r is keeps =
    grind (arith, splits_at, header_text-open, header_text-one, append_assoc, header_rest-open)

-- any other byte stands where the header ends
ends_at : (ps : Parameters) (index : ℕ) (bytes : List ℕ) → index < length bytes
    → ReadsHeader ps index bytes → is_header (get_or bytes index 0) ≡ false
    → header_rest bytes ≡ get_or bytes index 0 ∷ drop (index + 1) bytes
ends_at ps index bytes within r is = grind (arith, nat_tests, splits_at)

-- its `q`
pub begins_at : (ps : Parameters) (index : ℕ) (bytes : List ℕ) → index < length bytes
    → ReadsHeader ps index bytes → is_header (get_or bytes index 0) ≡ false
    → get_or bytes index 0 ≡ 113 → headed bytes ≡ Begun (drop (index + 1) bytes)
begins_at ps index bytes within r is q = rw (ends_at ps index bytes within r is, q) refl

-- the whole text was read there
pub text_at : (ps : Parameters) (index : ℕ) (bytes : List ℕ) → index < length bytes
    → (r : ReadsHeader ps index bytes) → is_header (get_or bytes index 0) ≡ false
    → r.read ≡ header_text bytes
text_at ps index bytes within r is = grind (arith, nat_tests, splits_at, append-nil)

-- a byte that is neither
pub refused_at : (e : SixelError) (ps : Parameters) (index : ℕ) (bytes : List ℕ)
    → index < length bytes → ReadsHeader ps index bytes → is_header (get_or bytes index 0) ≡ false
    → IsSomeAnd (command_fault (get_or bytes index 0)) (IsFault e) → IsHeaderFault e (headed bytes)
refused_at e ps index bytes within r is fault =
    let ends = ends_at ps index bytes within r is in grind (arith, nat_tests, ends)

-- a header that the bytes end in
pub open_at : (ps : Parameters) (index : ℕ) (bytes : List ℕ) → length bytes ≤ index
    → ReadsHeader ps index bytes → headed bytes ≡ Open
open_at ps index bytes past r = grind (arith, nat_tests, drop_all)
