-- Each list of bytes that carry meaning has one history: reading gives one, and reading the
-- spelling of any gives it back.
use Rattle.std.proofs.Common.{◌≡◌, ℕ, Bool, true, false, not, cond, List, [], ◌∷◌, ◌++◌, refl, ap}
use Rattle.std.proofs.Common.{sym, ◌∙◌, arith, append_assoc, fold}
use Rattle.std.specs.{List.list_all, Prelude.{IsTrue, ◌||◌}}
use Rattle.std.proofs.lemmas.{Bool.Decides.nat_tests, Grind.common_steps, List.append-nil}
use Rattle.std.proofs.lemmas.List.Sums.{fold-append}
use Rattle.sixel_base.specs.Bytes.{is_ignored, is_terminator, is_digit, is_parameter, front}
use Rattle.sixel_base.specs.History.{Token, Repeat, Raster, Color, History, start, text, spelling}
use Rattle.sixel_base.specs.History.{spellings, IsToken, takes, goes_on, AreTokens, IsHistory}
use Rattle.sixel_base.specs.History.{begun, with_byte, longer, read, history_of}

-- a byte that carries meaning: neither an ignored control nor a terminator
abbrev pub carries : ℕ → Bool
carries byte = not (is_ignored byte || is_terminator byte)

-- a byte begins a token that is spelled by it alone
pub start-begun : (byte : ℕ) → start (begun byte) ≡ byte
start-begun byte = grind (arith, nat_tests)

pub text-begun : (byte : ℕ) → text (begun byte) ≡ []
text-begun byte = grind (arith, nat_tests)

pub IsToken-begun : (byte : ℕ) → carries byte ≡ true → IsToken (begun byte)
IsToken-begun byte h = grind (arith, nat_tests)

-- a token that takes a byte is spelled with that byte at the end
pub spelling-with_byte : (token : Token) (byte : ℕ) → takes token byte ≡ true
    → spelling (with_byte token byte) ≡ spelling token ++ byte ∷ []
spelling-with_byte token byte h = grind (arith, common_steps, nat_tests)

spellings-longer : (h : History) (byte : ℕ) → goes_on h byte ≡ true
    → spellings (longer h byte) ≡ spellings h ++ byte ∷ []
spellings-longer h byte is = grind (arith, nat_tests, append_assoc, spelling-with_byte)

spellings-begun : (h : History) (byte : ℕ) → spellings (begun byte ∷ h) ≡ spellings h ++ byte ∷ []
spellings-begun h byte = grind (arith, nat_tests, start-begun, text-begun)

-- reading a byte adds it to what is spelled
pub spellings-read : (h : History) (byte : ℕ) → spellings (read h byte) ≡ spellings h ++ byte ∷ []
spellings-read h byte = grind (arith, nat_tests, spellings-longer, spellings-begun)

-- a byte that the newest token does not take begins one
pub read_ends : (h : History) (byte : ℕ) → goes_on h byte ≡ false → read h byte ≡ begun byte ∷ h
read_ends h byte is = ap (λ g. cond g (longer h byte) (begun byte ∷ h)) is

pub spellings-fold : (h : History) (bytes : List ℕ)
    → spellings (fold read h bytes) ≡ spellings h ++ bytes
spellings-fold h [] = sym (append-nil (spellings h))
spellings-fold h (byte ∷ bytes) =
    grind (arith, nat_tests, spellings-read, append_assoc, spellings-fold (read h byte) bytes)

list_all-push : (p : ℕ → Bool) (xs : List ℕ) (x : ℕ) → IsTrue (list_all p xs) → p x ≡ true
    → IsTrue (list_all p (xs ++ x ∷ []))
list_all-push p xs x all last = grind (arith, common_steps)

IsToken-with_byte : (token : Token) (byte : ℕ) → takes token byte ≡ true → IsToken token
    → IsToken (with_byte token byte)
IsToken-with_byte token byte h is = grind (arith, nat_tests, list_all-push)

-- a token keeps its first byte
start-with_byte : (token : Token) (byte : ℕ) → start (with_byte token byte) ≡ start token
start-with_byte token byte = grind (arith, common_steps, nat_tests)

AreTokens-longer : (h : History) (byte : ℕ) → goes_on h byte ≡ true → AreTokens h
    → AreTokens (longer h byte)
AreTokens-longer h byte is are = grind (arith, nat_tests, IsToken-with_byte, start-with_byte)

AreTokens-begun : (h : History) (byte : ℕ) → goes_on h byte ≡ false → carries byte ≡ true
    → AreTokens h → AreTokens (begun byte ∷ h)
AreTokens-begun h byte is may are = grind (arith, nat_tests, start-begun, IsToken-begun)

-- reading a byte that carries meaning keeps the tokens in order
pub AreTokens-read : (h : History) (byte : ℕ) → carries byte ≡ true → AreTokens h
    → AreTokens (read h byte)
AreTokens-read h byte may are = grind (arith, nat_tests, AreTokens-longer, AreTokens-begun)

pub AreTokens-fold : (h : History) (bytes : List ℕ) → IsTrue (list_all carries bytes) → AreTokens h
    → AreTokens (fold read h bytes)
AreTokens-fold h [] may are = are
AreTokens-fold h (byte ∷ bytes) may are =
    let first : carries byte ≡ true = grind (arith, common_steps) in
    let rest : IsTrue (list_all carries bytes) = grind (arith, common_steps) in
    AreTokens-fold (read h byte) bytes rest (AreTokens-read h byte first are)

-- what carries meaning is neither ignored nor a terminator
carries-front : (bytes : List ℕ) → IsTrue (list_all carries (front bytes))
carries-front [] = refl
carries-front (byte ∷ bytes) = grind (arith, common_steps, carries-front bytes)

-- each payload has a history
pub some_history : (bytes : List ℕ) → IsHistory (front bytes) (history_of (front bytes))
some_history bytes = grind (arith, nat_tests, spellings-fold, AreTokens-fold, carries-front)

-- ---- the history that spells the bytes is the one that reading gives

-- a token before its parameters
abbrev pub bare : Token → Token
bare (Repeat _) = Repeat []
bare (Raster _) = Raster []
bare (Color _) = Color []
bare token = token

begun-start : (token : Token) → IsToken token → begun (start token) ≡ bare token
begun-start token is = grind (arith, nat_tests)

-- bytes that a command takes complete its parameters
fold-parameters : (older : History) (takes_byte : ℕ → Bool) (command : List ℕ → Token)
    → ((s : List ℕ) (byte : ℕ) → takes_byte byte ≡ true → read (command s ∷ older) byte ≡ command
    (s ++ byte ∷ []) ∷ older) → (s t : List ℕ) → IsTrue (list_all takes_byte t)
    → fold read (command s ∷ older) t ≡ command (s ++ t) ∷ older
fold-parameters older takes_byte command goes s [] all = rw append-nil refl
fold-parameters older takes_byte command goes s (byte ∷ t) all =
    let first : takes_byte byte ≡ true = grind (arith, common_steps) in
    let rest : IsTrue (list_all takes_byte t) = grind (arith, common_steps) in
    rw (goes s byte first, fold-parameters older takes_byte command goes (s ++ byte ∷ []) t rest)
    (ap (λ w. command w ∷ older) (append_assoc s (byte ∷ []) t))

-- the text of a token completes it
fold-text : (older : History) (token : Token) → IsToken token
    → fold read (bare token ∷ older) (text token) ≡ token ∷ older
fold-text older token is =
    let repeat = fold-parameters older is_digit Repeat (λ s byte e. rw e refl) [] in
    let raster = fold-parameters older is_parameter Raster (λ s byte e. rw e refl) [] in
    let color = fold-parameters older is_parameter Color (λ s byte e. rw e refl) [] in
    grind (arith, nat_tests)

-- reading the spelling of a token adds it
pub fold-spelling : (older : History) (token : Token) → IsToken token
    → goes_on older (start token) ≡ false → fold read older (spelling token) ≡ token ∷ older
fold-spelling older token is ends = grind (arith, nat_tests, read_ends, begun-start, fold-text)

history_of-spellings : (h : History) → AreTokens h → history_of (spellings h) ≡ h
history_of-spellings [] are = refl
history_of-spellings (token ∷ older) are =
    grind (arith, fold-append, are.2, fold-spelling, are.0, are.1, history_of-spellings older are.2)

-- a history is the one that reading its bytes gives
pub history_unique : (bytes : List ℕ) (h : History) → IsHistory bytes h → h ≡ history_of bytes
history_unique bytes h is = sym (history_of-spellings h is.1) ∙ ap history_of is.0
