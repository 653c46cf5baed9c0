-- Entries with their plain bytes taken from the slots' bytes, one after the other. Assumes nothing.
use mathlib.Core.Path.{◌≡◌, refl, sym, ap, ◌∙◌}
use mathlib.Core.List.{List, [], ◌∷◌}
use Prim.Native.Nat.{ℕ, zero, suc, ◌+◌, ◌*◌, ◌<◌, ◌≤◌}
use native.Mathlib.Nat.{add-zero, not-suc-le-zero, le_of_suc-le-suc}
use native.Mathlib.Numerals.{add-one}
use native.Mathlib.Omega.{arith}
use lib.ListN.{length, get_or, set, take, drop, length-drop}
use lib.Seq.{get_or-drop, take_all, take-suc, take-suc-set, drop-drop, drop-set-lt, length-take-le}
use Rattle.common.specs.Tab.{tab}
use Rattle.common.proofs.Lists.{part_at_lem}
use Rattle.common.proofs.Tab.{tab_is}
use Rattle.step_effect.specs.Stored.{store_plains}
use Rattle.target.specs.Limits.{plain_room}
use Rattle.target.specs.Fresh.{past_entries}
use Rattle.target.specs.declared.Entry.{Entry}

-- an entry with other plain bytes
abbrev pub with_plain : Entry → List ℕ → Entry
with_plain e p = record { used = e.used; id = e.id; count = e.count; plain = p; site = e.site }

-- the bytes of slot k
abbrev pub slot_bytes : List ℕ → ℕ → List ℕ
slot_bytes bytes k = take plain_room (drop (plain_room * k) bytes)

pub length_stored : (es : List Entry) (bytes : List ℕ) → length (store_plains es bytes) ≡ length es
unfolding store_plains
length_stored [] bytes = refl
length_stored (e ∷ es) bytes = ap suc (length_stored es (drop plain_room bytes))

pub stored_at : (es : List Entry) (bytes : List ℕ) (k : ℕ) → k < length es
    → get_or (store_plains es bytes) k past_entries ≡ with_plain (get_or es k past_entries) (slot_bytes bytes k)
unfolding store_plains
stored_at [] bytes k h = absurd (not-suc-le-zero h)
stored_at (e ∷ es) bytes zero h = refl
stored_at (e ∷ es) bytes (suc k) h =
    let p : plain_room + plain_room * k ≡ plain_room * suc k = omega arith in
    stored_at es (drop plain_room bytes) k (le_of_suc-le-suc h)
    ∙ rw (drop-drop (plain_room * k) plain_room bytes, ← p)

-- they are four
pub four_bytes : (bytes : List ℕ) (k : ℕ) → plain_room * k + 4 ≤ length bytes
    → get_or bytes (4 * k) 0 ∷ get_or bytes (4 * k + 1) 0 ∷ get_or bytes (4 * k + 2) 0 ∷ get_or bytes (4 * k + 3) 0 ∷ []
    ≡ slot_bytes bytes k
unfolding tab
four_bytes bytes k h =
    let e = tab_is (slot_bytes bytes k) plain_room _ 0
    (length-take-le plain_room (drop (plain_room * k) bytes) (simp length-drop (omega arith)))
    (λ j g. part_at_lem bytes (plain_room * k) plain_room j 0 g) in
    sym (rw add-zero at e)

-- the entry at place k takes the bytes of its slot
abbrev pub Taken : List Entry → List ℕ → ℕ → List Entry → Type 0
Taken us bytes k vs = vs ≡ set us k (with_plain (get_or us k past_entries) (slot_bytes bytes k))

-- a loop over the entries: those before k are taken, those from k on as they were
module _ (es us : List Entry) (bytes : List ℕ) (k : ℕ) (z : length us ≡ length es) where
  module _ (h : k < length es) (r : drop k us ≡ drop k es) where
    pub still : get_or us k past_entries ≡ get_or es k past_entries
    still =
        let e = sym (get_or-drop k us 0 past_entries) ∙ ap (λ (l : List Entry). get_or l 0 past_entries) r
        ∙ get_or-drop k es 0 past_entries in
        rw add-zero at e

    module _ (vs : List Entry) (w : Taken us bytes k vs) where
      pub plains_more : take k us ≡ take k (store_plains es bytes)
          → take (k + 1) vs ≡ take (k + 1) (store_plains es bytes)
      plains_more t =
          let j : k < length (store_plains es bytes) = omega (arith, length_stored es bytes) in
          rw (
            w,
            add-one k,
            take-suc-set us k _ (omega arith),
            new,
            t,
            ← take-suc
                (store_plains es bytes) k past_entries j,
          )
        where
          new : with_plain (get_or us k past_entries) (slot_bytes bytes k)
              ≡ get_or (store_plains es bytes) k past_entries
          new = ap (λ (x : Entry). with_plain x (slot_bytes bytes k)) still ∙ sym (stored_at es bytes k h)

      pub plains_rest : drop (k + 1) vs ≡ drop (k + 1) es
      plains_rest =
          rw w (drop-set-lt (k + 1) us k _ (omega arith)) ∙ sym (drop-drop 1 k us) ∙ ap (drop 1) r ∙ drop-drop 1 k es

  pub plains_done : length es ≤ k → take k us ≡ take k (store_plains es bytes) → us ≡ store_plains es bytes
  plains_done h t = sym (take_all k us (omega arith)) ∙ t
      ∙ take_all k (store_plains es bytes) (omega (arith, length_stored es bytes))
