-- The words of a header. Blanks and comments are those of netpbm's
-- pages ppm(5) and pam(5). A comment counts as its line end. So no comment is inside of a word.
use Rattle.std.specs.Prelude.{ℕ, ◌==◌, ◌||◌, Bool, true, false, if◌then◌else◌, List, [], ◌∷◌}

-- a space, a tab, a line feed or a carriage return
abbrev pub blank : ℕ → Bool
blank byte = byte == 32 || byte == 9 || byte == 10 || byte == 13

-- a line feed or a carriage return
abbrev pub line_end : ℕ → Bool
line_end byte = byte == 10 || byte == 13

-- the bytes after blanks
abbrev pub after_blanks : List ℕ → List ℕ
after_blanks [] = []
after_blanks (byte ∷ bytes) = if blank byte then after_blanks bytes else byte ∷ bytes

-- the bytes after blanks and comments, from inside of a comment or not
abbrev pub after_gap_from : Bool → List ℕ → List ℕ
after_gap_from in_comment [] = []
after_gap_from true (byte ∷ bytes) = after_gap_from (if line_end byte then false else true) bytes
after_gap_from false (byte ∷ bytes) =
    if byte == 35 then after_gap_from true bytes
    else (if blank byte then after_gap_from false bytes else byte ∷ bytes)

abbrev pub after_gap : List ℕ → List ℕ
after_gap bytes = after_gap_from false bytes

-- the bytes before the first blank
abbrev pub word_of : List ℕ → List ℕ
word_of [] = []
word_of (byte ∷ bytes) = if blank byte then [] else byte ∷ word_of bytes

-- the bytes from the first blank on
abbrev pub after_word : List ℕ → List ℕ
after_word [] = []
after_word (byte ∷ bytes) = if blank byte then byte ∷ bytes else after_word bytes
