-- Laws of the slot that covers an offset: an offset is under a trap where a slot has its site. Assumes nothing.
use Rattle.std.specs.Prelude.{Some, None}
use mathlib.Core.Path.{◌≡◌, refl, sym, ◌∙◌}
use mathlib.Core.Bool.{Bool, true, false, cond}
use mathlib.Core.List.{List, [], ◌∷◌}
use mathlib.Core.Logic.{◌⊎◌}
use Prim.Native.Nat.{ℕ, ◌<◌, ◌≤◌}
use native.Mathlib.Omega.{arith}
use borrow.Author.Tests.{ltb-true, lt-ltb, le-ltb, eqb-true, eq-eqb, ne_eqb}
use lib.Dec.{ltb, eqb}
use lib.ListN.{length, get_or, set, replicate, length-set, length-replicate, get_or-replicate}
use Rattle.common.specs.First.{first_of}
use Rattle.target.specs.Index.{index_below}
use Rattle.target.proofs.Index.{index_some, index_none}
use Rattle.common.proofs.Cases.{on_test}
use Rattle.common.proofs.First.{first_within, first_holds, first_set, first_le, first_new}
use Rattle.memory.specs.Overlay.{free_site, site_over, slot_of, covered}
use Rattle.memory.proofs.Site.{Free, no_site_free}

module _ (w : ℕ) (sites : List ℕ) (i : ℕ) where
  -- a slot that is one of the slots is a trap's, and where it is none no trap stands
  pub slot_covers : slot_of w sites i < length sites → covered w sites i ≡ true
  unfolding covered
  slot_covers h = lt-ltb (slot_of w sites i) (length sites) h

  pub slot_none : length sites ≤ slot_of w sites i → covered w sites i ≡ false
  unfolding covered
  slot_none h = le-ltb (slot_of w sites i) (length sites) h

  -- the slot that a search answers covers the offset, and where it answers none, none does
  pub found : (k : ℕ) → length sites ≡ 8 → Some k ≡ index_below 8 (slot_of w sites i)
      → (k ≡ slot_of w sites i) × (k < 8) × (covered w sites i ≡ true)
  found k z e = let h = index_some 8 (slot_of w sites i) k e in (h.0, h.1, slot_covers (omega (arith, h.0, h.1)))

  pub found_none : length sites ≡ 8 → None ≡ index_below 8 (slot_of w sites i) → covered w sites i ≡ false
  found_none z e = slot_none (omega (arith, index_none 8 (slot_of w sites i) e))

  pub found_end : length sites ≡ 8 → None ≡ index_below 8 (slot_of w sites i) → 8 ≡ slot_of w sites i
  unfolding slot_of
  found_end z e =
      let k = slot_of w sites i in
      omega (arith, z, index_none 8 k e, first_within (eqb (site_over w i)) sites)

  -- under a trap the slot is one of the slots
  pub slot_below : covered w sites i ≡ true → slot_of w sites i < length sites
  unfolding covered
  slot_below e = ltb-true (slot_of w sites i) (length sites) e

  -- and has the offset's site
  pub slot_site : covered w sites i ≡ true → get_or sites (slot_of w sites i) 0 ≡ site_over w i
  unfolding slot_of
  slot_site e = sym (eqb-true _ _ (first_holds (eqb (site_over w i)) sites 0 (slot_below e)))

  -- an offset whose site some slot has is under a trap
  pub covered_by : (j : ℕ) → j < length sites → get_or sites j 0 ≡ site_over w i → covered w sites i ≡ true
  unfolding slot_of
  covered_by j h e =
      let b : first_of (eqb (site_over w i)) sites
      ≤ j = first_le (eqb (site_over w i)) sites 0 j h (eq-eqb _ _ (sym e)) in
      slot_covers (omega arith)

  -- an offset whose site no slot has is under no trap
  pub bare_by : ((j : ℕ) → j < length sites → get_or sites j 0 ≡ site_over w i → ⊥) → covered w sites i ≡ false
  bare_by none = on_test (covered w sites i) (λ e. absurd (none (slot_of w sites i) (slot_below e) (slot_site e)))
      (λ e. e)

  -- the one slot that has the offset's site is its slot
  pub slot_only : (k : ℕ) → k < length sites → get_or sites k 0 ≡ site_over w i
      → ((j : ℕ) → j < length sites → get_or sites j 0 ≡ get_or sites k 0 → j ≡ k) → slot_of w sites i ≡ k
  slot_only k h e only =
      let c : covered w sites i ≡ true = covered_by k h e in
      only (slot_of w sites i) (slot_below c) (slot_site c ∙ sym e)

-- one site alone covers the offsets that have it
pub covered_one : (w s i : ℕ) → covered w (s ∷ []) i ≡ eqb (site_over w i) s
unfolding covered slot_of first_of
covered_one w s i = by (eqb (site_over w i) s)
  where
    by : (b : Bool) → ltb (cond b 0 1) 1 ≡ b
    by true = refl
    by false = refl

-- ---- free slots

-- where every slot is free no offset is under a trap
pub none_covered : (w : ℕ) (sites : List ℕ) → ((j : ℕ) → j < length sites → Free w (get_or sites j 0)) → (i : ℕ)
    → covered w sites i ≡ false
none_covered w sites free i = bare_by w sites i (λ j h e. free j h i (sym e))

-- k slots with the site that stands for none are free
pub free_slots : (w : ℕ) → 2 ≤ w → (k j : ℕ) → j < length (replicate k free_site)
    → Free w (get_or (replicate k free_site) j 0)
free_slots w h k j l = rw (get_or-replicate k j free_site 0 (rw length-replicate at l)) (no_site_free w h)

-- ---- another site is stored in slot k

module _ (w : ℕ) (sites : List ℕ) (k z i : ℕ) where
  -- where the slot is the same, so is whether a trap covers the offset
  pub covered_same : slot_of w (set sites k z) i ≡ slot_of w sites i → covered w (set sites k z) i ≡ covered w sites i
  unfolding covered
  covered_same e = rw (e, length-set)

  -- an offset with neither the old site nor the new one has the slot that it had
  pub slot_kept : (site_over w i ≡ z → ⊥) → (site_over w i ≡ get_or sites k 0 → ⊥)
      → slot_of w (set sites k z) i ≡ slot_of w sites i
  unfolding slot_of
  slot_kept n o = first_set (eqb (site_over w i)) sites 0 k z (ne_eqb _ _ n ∙ sym (ne_eqb _ _ o))

  -- and is under a trap if it was
  pub covered_kept : (site_over w i ≡ z → ⊥) → (site_over w i ≡ get_or sites k 0 → ⊥)
      → covered w (set sites k z) i ≡ covered w sites i
  covered_kept n o = covered_same (slot_kept n o)

  -- where slot k was free, the offset has slot k now, or the slot that it had
  pub slot_new : Free w (get_or sites k 0) → (slot_of w (set sites k z) i ≡ k)
      ⊎ (slot_of w (set sites k z) i ≡ slot_of w sites i)
  unfolding slot_of
  slot_new free = first_new (eqb (site_over w i)) sites 0 k z (ne_eqb _ _ (free i))
