-- The library's four bytes of a number are the definition's, high-order first. Assumes nothing.
use Rattle.std.proofs.Common.{◌≡◌, ℕ, ◌/◌, w32, arith}
use Rattle.std.specs.Int.{to_be_bytes}
use Rattle.common.specs.Bytes.{low_first, high_first}

pub four_bytes : (n : ℕ) → to_be_bytes w32 n ≡ high_first 4 n
unfolding low_first high_first
four_bytes n =
    let a : n / 256 / 256 / 256 ≡ n / 16777216 = omega arith in
    let b : n / 256 / 256 ≡ n / 65536 = omega arith in
    rw (a, b)
