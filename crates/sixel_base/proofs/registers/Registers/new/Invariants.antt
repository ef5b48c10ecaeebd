use Rattle.std.proofs.Common.{◌≡◌, ℕ, ◌<◌, [], length, get_or}
use Rattle.sixel_base.proofs.DefaultCodes.{coded_color}
use Rattle.sixel_base.proofs.registers.Registers.new.Given as goal

abbrev pub invariant-loop-register : goal.invariant-loop-register
invariant-loop-register l = record {
  size : length l.colors ≡ 256;
  colored : (k : ℕ) → k < l.register → get_or l.colors k [] ≡ coded_color k;
}
