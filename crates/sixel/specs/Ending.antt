-- How the program ends: its work is done, or it fails with this error after what was written.
-- This program's own.
use Rattle.sixel.specs.declared.netpbm.error.NetpbmError.{NetpbmError}
use Rattle.sixel_base.specs.declared.error.SixelError.{SixelError}

pub data Ending : Type 0 where
  Done : Ending
  Refused : SixelError → Ending
  -- the input is no file of netpbm
  Unreadable : NetpbmError → Ending
