-- The index that a search answers, where the definitions have the number of places for none.
use Rattle.std.specs.Prelude.{ℕ, cond, ltb, Option, Some, None}

-- an index that is below a bound; any other is none
unfoldable pub index_below : ℕ → ℕ → Option ℕ
index_below n k = cond (ltb k n) (Some k) None
