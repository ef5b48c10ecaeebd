-- The first arguments of a list, as they were read.
use Rattle.std.proofs.Common.{◌≡◌, ◌≤◌, ◌<◌, ◌+◌, ◌-◌, List, [], ◌∷◌, ◌++◌, ℕ, arith, length}
use Rattle.std.proofs.Common.{get_or, take, drop, string_bytes, String}
use Rattle.std.specs.declared.alloc.Global.{Global}
use Rattle.std.proofs.lemmas.{Bool.Decides.nat_tests, List.{map-append, take_all, take_more}}
use Rattle.sixel.specs.Words.{words_of}

-- the first two arguments, and those after them
pub two_words : (words : List (String Global)) (name value : String Global) → 2 ≤ length words
    → name ≡ get_or words 0 name → value ≡ get_or words 1 value
    → words_of words
    ≡ string_bytes name ∷ string_bytes value ∷ words_of (take (length words - 2) (drop 2 words))
two_words words name value many is_name is_value = grind (arith, nat_tests, take_all, string_bytes)

-- the first argument, and those after it
pub first_word : (words : List (String Global)) (word : String Global) (read : List ℕ)
    → 1 ≤ length words → word ≡ get_or words 0 word → read ≡ string_bytes word
    → words_of words ≡ read ∷ words_of (take (length words - 1) (drop 1 words))
first_word words word read many is_word is_read = grind (arith, nat_tests, take_all, string_bytes)

-- the only argument
pub only_word : (words : List (String Global)) (word : String Global) (read : List ℕ)
    → 1 ≤ length words → length words < 2 → word ≡ get_or words 0 word
    → read ≡ string_bytes word → words_of words ≡ read ∷ []
only_word words word read some few is_word is_read =
    grind (arith, nat_tests, first_word words word read some is_word is_read)

-- one argument more than those before it
pub one_more : (words : List (String Global)) (index : ℕ) (word : String Global) (read : List ℕ)
    → index < length words → word ≡ get_or words index word → read ≡ string_bytes word
    → words_of (take (index + 1) words) ≡ words_of (take index words) ++ read ∷ []
one_more words index word read inside is_word is_read =
    rw (take_more words index word inside, ← is_word, is_read) (map-append string_bytes _ _)
