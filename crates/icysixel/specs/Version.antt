-- The version of the library, as one number that grows from version to version.
use Rattle.std.specs.Prelude.{ℕ, ◌+◌, ◌*◌}

-- the major number, the minor one below 256 and the patch below 256, as the bytes of a number
abbrev pub version_number : ℕ → ℕ → ℕ → ℕ
version_number major minor patch = 65536 * major + 256 * minor + patch
