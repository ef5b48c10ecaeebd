use Rattle.std.proofs.Common.{◌≡◌, ◌++◌, drop, take}
use Rattle.sixel.specs.netpbm.Words.{after_word, word_of}
use Rattle.sixel.proofs.netpbm.words.split_word.Given as goal

-- no byte so far is a blank
abbrev pub invariant-word : goal.invariant-word
invariant-word l = record {
  word : take l.index l.bytes ++ word_of (drop l.index l.bytes) ≡ word_of l.bytes;
  rest : after_word (drop l.index l.bytes) ≡ after_word l.bytes;
}
