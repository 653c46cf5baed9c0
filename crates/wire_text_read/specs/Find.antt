-- A text among rows.
use Rattle.std.specs.Prelude.{ℕ, cond, List, Option, Some, None, ltb, length}
use Rattle.common.specs.First.{first_of}
use Rattle.common.specs.Same.{same_list}

-- the place of the first row that is the text
abbrev pub place_of : List ℕ → List (List ℕ) → Option ℕ
place_of text rows =
    cond (ltb (first_of (same_list text) rows) (length rows)) (Some (first_of (same_list text) rows)) None
