use Rattle.std.proofs.Common.{◌≡◌, ◌+◌, drop, length}
use Rattle.icy_sixel.specs.Registers.{with_colors}
use Rattle.icysixel.proofs.registers.copy_colors.Given as goal

abbrev pub invariant-loop-place : goal.invariant-loop-place
invariant-loop-place l = record {
  size : length l.buf ≡ length l.initial.buf;
  written : with_colors l.buf (0 + l.place) (drop l.place l.colors)
      ≡ with_colors l.initial.buf 0 l.colors;
}
