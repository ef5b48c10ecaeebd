use Rattle.std.proofs.Common.{◌≡◌, ◌≢◌, ◌+◌, ◌-◌, ◌%◌, ◌≤◌, length, take}
use Rattle.sixel_palette.proofs.nearest_entries.Keys.{AreLeastKeys, ArePushed}
use Rattle.sixel_palette.proofs.palette.nearest.push_nearest.Given as goal

abbrev pub invariant-loop-position : goal.invariant-loop-position
invariant-loop-position l = record {
  pushed : ArePushed l.cube l.greatest (take l.position l.entries) l.fn.list.items
      (take l.end l.list.items);
  size : length l.list.items ≡ length l.fn.list.items + length l.entries;
  end : l.end ≤ length l.fn.list.items + l.position;
  keys : l.position % 64 ≢ 0
      → AreLeastKeys l.cube l.entries (l.position - l.position % 64) l.keys;
}
