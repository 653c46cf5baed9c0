-- The transition at a byte of stuffed data after which its part goes on, and at the last byte of a good header. Assumes
-- nothing.
use mathlib.Core.Path.{◌≡◌, refl, ◌∙◌}
use mathlib.Core.Bool.{Bool, true, false, not, cond, ◌&&◌}
use mathlib.Core.List.{List}
use Rattle.std.specs.Prelude.{None}
use Prim.Native.Nat.{ℕ, ◌+◌, ◌<◌, ◌≤◌}
use native.Mathlib.Omega.{arith}
use borrow.Author.Tests.{leb-true, ltb-true, ltb-false, eqb-true, not-true}
use borrow.Author.Tests.{lt-ltb, le-ltb, lt-leb, le-leb, ne_eqb, eq-eqb}
use lib.Dec.{eqb, leb, ltb}
use lib.ListN.{set}
use Rattle.common.proofs.Cases.{on_test, on_less}
use Rattle.frame.specs.Packet.{begin_byte}
use Rattle.frame.specs.Stuffing.{completed}
use Rattle.frame.specs.Reader.{in_header, in_body, before_end, end_of, shifted, counted, opened, after_part}
use Rattle.frame.specs.Reader.{part_answer}
use Rattle.frame.specs.Reader.{silent, storing, is_good, byte_complete, data_of, transition_of}
use Rattle.frame.specs.Feeding.{stored}
use Rattle.frame.specs.declared.Reader.{Reader}
use Rattle.frame.specs.Within.{in_part, last_due, goes_on, completing, ends_header}

never : true ≡ false → ⊥
never e = let z : ◌≡◌ {A = ℕ} 0 1 = cc in omega arith

-- where stuffed data is due, and where it is not
module _ (r : Reader) (c : ℕ) (k : c ≡ begin_byte → ⊥) where
  pub due : in_part r ≡ true → transition_of r c ≡ data_of r c
  unfolding transition_of
  due p =
      on_test (eqb r.phase in_header)
      (λ e. rw (ne_eqb c begin_byte k, e))
      (λ e. let q : eqb r.phase in_body ≡ true = rw e at p in rw (ne_eqb c begin_byte k, e, q))

  pub not_due : in_part r ≡ false → transition_of r c ≡ cond (eqb r.phase before_end) (end_of r c) (silent r)
  unfolding transition_of
  not_due p =
      on_test (eqb r.phase in_header)
      (λ e. absurd (never (rw e at p)))
      (λ e. let q : eqb r.phase in_body ≡ false = rw e at p in rw (ne_eqb c begin_byte k, e, q))

-- a test of both
both : (a b : Bool) → (a && b) ≡ true → (a ≡ true) × (b ≡ true)
both true b e = (refl, e)
both false b e = (e, cc)

-- a byte after which its part goes on
module _ (r : Reader) (c : ℕ) (w : goes_on r c ≡ true) where
  tests : (leb 128 c ≡ true) × (not (last_due r) ≡ true) × (in_part r ≡ true)
  unfolding goes_on
  tests =
      let a = both (leb 128 c) (not (last_due r) && in_part r) w in
      let b = both (not (last_due r)) (in_part r) a.1 in (a.0, b.0, b.1)

  high : 128 ≤ c
  high = leb-true 128 c tests.0

  pub more : 2 < r.scale → r.count ≤ r.size
  unfolding last_due
  more h =
      let e : (ltb 2 r.scale && ltb r.size r.count) ≡ false = not-true _ tests.1 in
      let f : ltb r.size r.count ≡ false = rw (lt-ltb 2 r.scale h) at e in
      ltb-false r.size r.count f

  is_data_lem : transition_of r c ≡ data_of r c
  is_data_lem = due r c (λ e. omega (arith, high)) tests.2

  -- the first of eight stuffed bytes
  pub first_byte : r.scale ≤ 2 → transition_of r c ≡ silent (shifted r c)
  unfolding data_of
  first_byte h = is_data_lem ∙ rw (le-ltb c 128 high, le-leb r.scale 2 h)

  -- any other
  pub next_byte : 2 < r.scale
      → transition_of r c
      ≡ record {
        reader = counted (completing r c);
        stores = storing r (completed r.scale r.held c);
        answer = None;
      }
  unfolding data_of byte_complete
  next_byte h =
      is_data_lem
      ∙ rw (le-ltb c 128 high, lt-leb r.scale 2 h, lt-leb (r.size + 1) r.count (omega (arith, more h)))

  pub answers_nothing_lem : (transition_of r c).answer ≡ None
  answers_nothing_lem = on_less 2 r.scale (λ h. rw (next_byte h)) (λ h. rw (first_byte h))

  pub same_phase : (transition_of r c).reader.phase ≡ r.phase
  same_phase = on_less 2 r.scale (λ h. rw (next_byte h)) (λ h. rw (first_byte h))

  module _ (buffer : List ℕ) where
    pub stores_byte : 2 < r.scale → r.phase ≡ in_body
        → set buffer r.count (completed r.scale r.held c) ≡ stored r (transition_of r c) buffer
    unfolding stored
    stores_byte h e = rw (next_byte h, eq-eqb r.phase in_body e)

    pub stores_first : r.scale ≤ 2 → buffer ≡ stored r (transition_of r c) buffer
    unfolding stored
    stores_first h = rw (first_byte h)

    pub stores_none : (r.phase ≡ in_body → ⊥) → buffer ≡ stored r (transition_of r c) buffer
    unfolding stored
    stores_none e =
        on_less 2 r.scale (λ h. rw (next_byte h, ne_eqb r.phase in_body e)) (λ h. rw (first_byte h))

-- the last byte of a good header
module _ (r : Reader) (c : ℕ) (w : ends_header r c ≡ true) where
  ends : transition_of r c
      ≡ record {
        reader = opened (completing r c).last;
        stores = None;
        answer = None;
      }
  unfolding last_due ends_header data_of byte_complete after_part part_answer
  ends =
      let t1 = both (leb 128 c) (last_due r && (eqb r.phase in_header && is_good (completing r c))) w in
      let t2 = both (last_due r) (eqb r.phase in_header && is_good (completing r c)) t1.1 in
      let t3 = both (ltb 2 r.scale) (ltb r.size r.count) t2.0 in
      let t4 = both (eqb r.phase in_header) (is_good (completing r c)) t2.1 in
      let high = leb-true 128 c t1.0 in
      let scale = ltb-true 2 r.scale t3.0 in
      let count = ltb-true r.size r.count t3.1 in
      let phase = eqb-true r.phase in_header t4.0 in
      due r c (λ e. omega (arith, high)) (rw t4.0)
      ∙ rw (
        le-ltb c 128 high,
        lt-leb r.scale 2 scale,
        le-leb (r.size + 1) r.count (omega (arith, count)),
        t4.1,
        t4.0,
        ne_eqb r.phase in_body (λ e. omega (arith, phase)),
      )

  pub header_ends : opened (completing r c).last ≡ (transition_of r c).reader
  header_ends = rw ends

  pub ends_silently : (transition_of r c).answer ≡ None
  ends_silently = rw ends

  pub ends_unstored : (buffer : List ℕ) → buffer ≡ stored r (transition_of r c) buffer
  unfolding stored
  ends_unstored buffer = rw ends
