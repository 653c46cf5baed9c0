-- A loop over two lists of one length. Assumes nothing.
use mathlib.Core.Path.{◌≡◌, sym, ap, ◌∙◌}
use mathlib.Core.Bool.{true, false, ◌&&◌}
use mathlib.Core.List.{List, ◌∷◌}
use Prim.Native.Nat.{ℕ, suc, ◌+◌, ◌<◌, ◌≤◌}
use native.Mathlib.Numerals.{add-one}
use native.Mathlib.Omega.{arith}
use borrow.Author.Tests.{eq-eqb, ne_eqb}
use lib.Dec.{eqb}
use lib.ListN.{length, get_or, drop, drop_of_length-le}
use lib.Seq.{drop-cons}
use Rattle.common.specs.Same.{same_list}

-- they agree before place i
abbrev pub Agreed : List ℕ → List ℕ → ℕ → Type 0
Agreed l k i = same_list l k ≡ same_list (drop i l) (drop i k)

step : (l k : List ℕ) (i : ℕ) → i < length l → i < length k
    → same_list (drop i l) (drop i k) ≡ (eqb (get_or l i 0) (get_or k i 0)
    && same_list (drop (i + 1) l) (drop (i + 1) k))
unfolding same_list
step l k i hl hk =
    ap (λ (x : List ℕ). same_list x (drop i k)) (drop-cons l i 0 hl)
    ∙ ap (λ (x : List ℕ). same_list (get_or l i 0 ∷ drop (suc i) l) x) (drop-cons k i 0 hk)
    ∙ ap (λ (n : ℕ). eqb (get_or l i 0) (get_or k i 0) && same_list (drop n l) (drop n k)) (sym (add-one i))

module _ (l k : List ℕ) (i : ℕ) (z : length l ≡ length k) where
  -- equal at i: they agree before the next place
  pub agree : i < length l → get_or l i 0 ≡ get_or k i 0 → Agreed l k i → Agreed l k (i + 1)
  agree h e a = a ∙ step l k i h (omega arith) ∙ rw (eq-eqb _ _ e)

  -- not equal at i: they differ
  pub differ : i < length l → (get_or l i 0 ≡ get_or k i 0 → ⊥) → Agreed l k i → false ≡ same_list l k
  differ h n a = sym (a ∙ step l k i h (omega arith) ∙ rw (ne_eqb _ _ n))

  -- every place is passed: they are the same
  pub agree_all : length l ≤ i → Agreed l k i → true ≡ same_list l k
  unfolding same_list
  agree_all h a = sym (a ∙ rw (drop_of_length-le l {i = i} h, drop_of_length-le k {i = i} (omega arith)))
