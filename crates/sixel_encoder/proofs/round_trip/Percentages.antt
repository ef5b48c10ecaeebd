-- A percentage as a byte, and back.
use Rattle.std.proofs.Common.{◌≡◌, ℕ, ◌<◌, ◌≤◌, arith}
use Rattle.sixel_base.specs.Color.{byte_of}
use Rattle.sixel_palette.specs.Refined.{percentage}
use Rattle.sixel_encoder.specs.Trip.{rounded}

-- a percentage is the same once it has been a byte
pub percentage-byte_of : (p : ℕ) → p ≤ 100 → percentage (byte_of p) ≡ p
percentage-byte_of p h = omega arith

-- a byte that has been rounded is rounded
pub rounded-rounded : (c : ℕ) → rounded (rounded c) ≡ rounded c
rounded-rounded c = omega arith

-- a channel that was rounded is a byte
pub rounded_byte : (c : ℕ) → rounded c < 256
rounded_byte c = omega arith
