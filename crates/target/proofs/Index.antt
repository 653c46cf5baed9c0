-- Laws of the index that a search answers: which it is where one is found, and that a search from the front gives it.
-- Assumes nothing.
use Rattle.std.specs.Prelude.{Option, Some, None, is_some}
use mathlib.Core.Path.{◌≡◌, refl, sym, ap, ◌∙◌}
use mathlib.Core.Bool.{Bool, true, false, cond}
use mathlib.Core.List.{List}
use Prim.Native.Nat.{ℕ, ◌<◌, ◌≤◌}
use native.Mathlib.Omega.{arith}
use borrow.Author.Tests.{lt-ltb, le-ltb, ltb-true, ltb-false}
use lib.Dec.{ltb}
use lib.ListN.{get_or}
use Rattle.common.specs.First.{first_of}
use Rattle.common.proofs.First.{Passed, stop, none}
use Rattle.target.specs.Index.{index_below}

module _ (n i : ℕ) where
  pub index_in : i < n → index_below n i ≡ Some i
  unfolding index_below
  index_in h = rw (lt-ltb i n h)

  pub index_out : n ≤ i → index_below n i ≡ None
  unfolding index_below
  index_out h = rw (le-ltb i n h)

  pub index_is_some : is_some (index_below n i) ≡ ltb i n
  unfolding index_below
  index_is_some = by (ltb i n)
    where
      by : (b : Bool) → is_some (cond b (Some i) None) ≡ b
      by true = refl
      by false = refl

  -- by the test of a search's answer
  pub index_yes : (r : Option ℕ) → r ≡ index_below n i → is_some r ≡ true → i < n
  index_yes r e h = ltb-true i n (sym index_is_some ∙ ap is_some (sym e) ∙ h)

  pub index_no : (r : Option ℕ) → r ≡ index_below n i → is_some r ≡ false → n ≤ i
  index_no r e h = ltb-false i n (sym index_is_some ∙ ap is_some (sym e) ∙ h)

  pub index_some : (k : ℕ) → Some k ≡ index_below n i → (k ≡ i) × (k < n)
  unfolding index_below
  index_some k e = by (ltb i n) refl e
    where
      by : (b : Bool) → ltb i n ≡ b → Some k ≡ cond b (Some i) None → (k ≡ i) × (k < n)
      by true h q = let z : k ≡ i = cc in (z, omega (arith, z, ltb-true i n h))
      by false h q = (cc, let z : ◌≡◌ {A = ℕ} 0 1 = cc in absurd (omega arith))

  pub index_none : None ≡ index_below n i → n ≤ i
  unfolding index_below
  index_none e = by (ltb i n) refl e
    where
      by : (b : Bool) → ltb i n ≡ b → None ≡ cond b (Some i) None → n ≤ i
      by true h q = let z : ◌≡◌ {A = ℕ} 0 1 = cc in absurd (omega arith)
      by false h q = ltb-false i n h

-- a search from the front: it stops where the test holds, or has passed all
module _ {A : Type 0} (f : A → Bool) (l : List A) (d : A) (n k : ℕ) (p : Passed f l n k) where
  pub search_stops : k < n → f (get_or l k d) ≡ true → Some k ≡ index_below n (first_of f l)
  search_stops h u = rw (← stop f l d n k p h u) (sym (index_in n k h))

  pub search_ends : n ≤ k → None ≡ index_below n (first_of f l)
  search_ends h = sym (index_out n (first_of f l) (omega (arith, none f l d n k p (omega (arith, p.0)))))
