use Rattle.std.proofs.Common.{◌≡◌, ◌+◌, ◌<◌, drop, length}
use Rattle.icy_sixel.specs.Registers.{with_colors}
use Rattle.icy_sixel.proofs.decoder.SixelDecoder.set_registers.Given as goal

abbrev pub invariant-loop-place : goal.invariant-loop-place
invariant-loop-place l = record {
  registers : 0 < l.place → length l.self-inside.state.registers ≡ 256;
  colored : with_colors l.self-inside.state.registers (l.first + l.place) (drop l.place l.colors)
      ≡ with_colors l.initial.self-inside.state.registers l.first l.colors;
  crop : l.self-inside.state.raster_crop ≡ l.initial.self-inside.state.raster_crop;
  limit : l.self-inside.state.pixel_limit ≡ l.initial.self-inside.state.pixel_limit;
}
