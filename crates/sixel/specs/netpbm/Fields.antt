-- Which fields make up a header.
use Rattle.std.specs.Prelude.{ℕ, ◌<◌, ◌≤◌, ◌&&◌, nat_lt, if◌then◌else◌, List, Option, Some, Result}
use Rattle.std.specs.Prelude.{Ok, Err}
use Rattle.sixel.specs.declared.{netpbm.error.NetpbmError.NetpbmError, netpbm.header.Header.Header}
use Rattle.sixel.specs.declared.netpbm.error.NetpbmError.TheVariants.{Header as Malformed}

-- a header and the bytes after it, or why there is none
abbrev pub Read : Type 0
Read = Result (Header × List ℕ) NetpbmError

-- a header whose pixels begin with these bytes
abbrev pub with_rest : List ℕ → Result Header NetpbmError → Read
with_rest rest (Ok header) = Ok (header, rest)
with_rest rest (Err error) = Err error

-- these fields are there and in range: no size is zero, and the greatest sample has 16 bits
abbrev pub checked : Option ℕ → Option ℕ → Option ℕ → Option ℕ → Result Header NetpbmError
checked (Some width) (Some height) (Some depth) (Some maxval) =
    if nat_lt 0 width && nat_lt 0 height && nat_lt 0 maxval && nat_lt maxval 65536
    && nat_lt 0 depth
    then Ok (record { width = width; height = height; depth = depth; maxval = maxval })
    else Err Malformed
checked _ _ _ _ = Err Malformed

-- one to four samples a pixel, of at most 16 bits each
pub record IsHeader (header : Header) : Type 0 where
  pub some : 0 < header.depth
  pub few : header.depth ≤ 4
  pub least : 0 < header.maxval
  pub most : header.maxval < 65536
