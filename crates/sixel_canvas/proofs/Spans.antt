use Rattle.std.proofs.Common.{◌≡◌, ℕ, ◌+◌, ◌-◌, ◌%◌, ◌<◌, ◌≤◌, List, length, get_or, arith}
use Rattle.std.proofs.lemmas.Simd.{get_or-put_chunk_below, get_or-put_chunk_at, length-put_chunk}
use lib.Lanes.{put_chunk}
use Rattle.std.proofs.lemmas.Bool.Decides.{nat_tests}

-- the bytes before this place have the color
abbrev pub IsColored : List ℕ → List ℕ → ℕ → Type 0
IsColored color span at = (k : ℕ) → k < at → get_or span k 0 ≡ get_or color (k % 4) 0

-- a byte of the piece that was stored
get_or-stored : (color span piece : List ℕ) (at k : ℕ) → at % 4 ≡ 0
    → at + length piece ≤ length span → IsColored color piece (length piece) → at ≤ k
    → k < at + length piece → get_or (put_chunk at span piece) k 0 ≡ get_or color (k % 4) 0
get_or-stored color span piece at k whole fits colored from to =
    let place : at + (k - at) ≡ k = omega arith in
    grind (arith, get_or-put_chunk_at)

-- one more piece of the color leaves a longer colored front
pub IsColored-store : (color span piece : List ℕ) (at n : ℕ) → length piece ≡ n → at % 4 ≡ 0
    → at + n ≤ length span → IsColored color span at → IsColored color piece n
    → IsColored color (put_chunk at span piece) (at + n)
IsColored-store color span piece at n long whole fits before colored =
    grind (arith, nat_tests, get_or-put_chunk_below, get_or-stored)

-- what a loop over the pieces needs
pub ruleset stores = (length-put_chunk, IsColored-store)
