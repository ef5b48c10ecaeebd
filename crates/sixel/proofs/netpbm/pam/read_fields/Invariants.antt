use Rattle.std.proofs.Common.{◌≡◌, ◌≤◌, ◌-◌, [], drop, take}
use Rattle.sixel.specs.netpbm.Pam.{no_fields, read_lines}
use Rattle.sixel.proofs.netpbm.pam.read_fields.Given as goal

-- the fields of the lines so far, and the bytes of an open one
abbrev pub invariant-bytes : goal.invariant-bytes
invariant-bytes l = record {
  within : l.start ≤ l.index;
  read :
      read_lines l.fields (take (l.index - l.start) (drop l.start l.bytes)) (drop l.index l.bytes)
      ≡ read_lines no_fields [] l.bytes;
}
