-- What a place among rows says. Assumes nothing.
use mathlib.Core.Path.{◌≡◌, refl, sym, ap}
use mathlib.Core.Bool.{Bool, true, false, cond}
use mathlib.Core.List.{List, map}
use Prim.Native.Nat.{ℕ, ◌<◌, ◌≤◌}
use borrow.Author.Tests.{ltb-true, ltb-false, lt-ltb, le-ltb}
use lib.Dec.{ltb, eqb}
use lib.ListN.{length, get_or}
use Rattle.std.specs.Prelude.{Some, None}
use Rattle.std.proofs.lemmas.Option.{slice_get_past}
use Rattle.common.specs.First.{first_of}
use Rattle.common.specs.Same.{same_list}
use Rattle.wire_text.specs.Text.{reasons, reason_text, reason_place, reason_at, reason_of_text}
use Rattle.wire_text.specs.Text.{digit_value, pair_value, state_names, state_of_text}
use Rattle.wire_text_read.specs.Find.{place_of}

module _ (text : List ℕ) (rows : List (List ℕ)) where
  abbrev first : ℕ
  first = first_of (same_list text) rows

  place_some : (p : ℕ) → Some p ≡ place_of text rows → (p ≡ first) × (p < length rows)
  place_some p e = by (ltb first (length rows)) refl e
    where
      by : (b : Bool) → ltb first (length rows) ≡ b → Some p ≡ cond b (Some first) None
          → (p ≡ first) × (p < length rows)
      by true t q = let z : p ≡ first = cc in (z, rw z (ltb-true _ _ t))
      by false t q = let z : ⊥ = cc in absurd z

  place_none : None ≡ place_of text rows → length rows ≤ first
  place_none e = by (ltb first (length rows)) refl e
    where
      by : (b : Bool) → ltb first (length rows) ≡ b → None ≡ cond b (Some first) None → length rows ≤ first
      by true t q = let z : ⊥ = cc in absurd z
      by false t q = ltb-false _ _ t

abbrev pub reason_rows : List (List ℕ)
reason_rows = map reason_text reasons

module _ (text : List ℕ) where
  pub reason_some : (p : ℕ) → Some p ≡ place_of text reason_rows → reason_at p ≡ reason_of_text text
  unfolding reason_of_text reason_place
  reason_some p e = ap reason_at (place_some text reason_rows p e).0

  pub reason_none : None ≡ place_of text reason_rows → None ≡ reason_of_text text
  unfolding reason_of_text reason_place reason_at reasons
  reason_none e = sym (slice_get_past reasons _ (place_none text reason_rows e))

  -- ---- states

  pub state_some : (p : ℕ) → Some p ≡ place_of text state_names → p ≡ state_of_text text
  unfolding state_of_text state_names
  state_some p e =
      let h = place_some text state_names p e in
      rw (← h.0, lt-ltb p 10 h.1)

  pub state_none : None ≡ place_of text state_names
      → cond (eqb (get_or text 1 0) 0) (digit_value (get_or text 0 0)) (pair_value text 0) ≡ state_of_text text
  unfolding state_of_text state_names
  state_none e = rw (le-ltb _ 10 (place_none text state_names e))
