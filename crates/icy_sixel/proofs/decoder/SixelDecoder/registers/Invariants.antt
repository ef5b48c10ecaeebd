use Rattle.std.proofs.Common.{◌≡◌, ◌<◌, length, take}
use Rattle.icy_sixel.proofs.decoder.SixelDecoder.registers.Given as goal

abbrev pub invariant-loop-number : goal.invariant-loop-number
invariant-loop-number l = record {
  size : length l.colors ≡ 256;
  registers : 0 < l.number → length l.self.registers ≡ 256;
  copied : take l.number l.colors ≡ take l.number l.self.registers;
}
