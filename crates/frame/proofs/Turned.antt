-- Turning sixteen bits left by three. Assumes nothing.
use Rattle.std.proofs.Common.{ℕ, ◌≡◌, ◌<◌, ◌*◌, ◌/◌, ◌%◌, ◌^◌, arith, bit_or}
use Rattle.std.proofs.lemmas.Nat.{or_shifted}
use Rattle.frame.specs.Checksum.{rotated}

pub turned : (x : ℕ) → x < 65536 → bit_or (x * 2 ^ 3 % 2 ^ 16) (x / 2 ^ 13) ≡ rotated x
turned x h =
    let e : x * 2 ^ 3 % 2 ^ 16 ≡ x % 8192 * 2 ^ 3 = omega arith in
    rw e (or_shifted (x % 8192) 3 (x / 8192) (omega arith))
