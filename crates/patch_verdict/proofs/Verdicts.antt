-- The verdict, by what the checker's loop says of the bounds.
use Rattle.std.proofs.Common.{◌≡◌, ◌∙◌, ℕ, Bool, cond, List, length, Ok, Err}
use Rattle.common.specs.Same.{same_list}
use Rattle.common.proofs.Cases.{on_test}
use Rattle.patch.specs.Check.{verdict_by, check_from, bounds_of, verdict_of}
use Rattle.patch.specs.declared.Fault.{Fault}
use Rattle.patch.specs.declared.Fault.TheVariants.{ImagesDiffer}
use Rattle.patch.specs.declared.Write.{Write}
use Rattle.patch_laws.proofs.Walked.{walked}
use lib.Dec.{ltb}

module _ (free : ℕ → Bool) (base : ℕ) (plain wanted : List ℕ) (ws : List Write) where
  pub broken : (fault : Fault) → Err fault ≡ bounds_of (length ws) (check_from free base 0 ws plain)
      → Err fault ≡ verdict_by free base plain wanted ws
  unfolding bounds_of verdict_of
  broken fault e =
      on_test (ltb (check_from free base 0 ws plain).index (length ws))
      (λ h. (rw h at e) ∙ rw h at (walked free base plain wanted ws))
      (λ h. let f = rw h at e in cc)

  pub whole : (image : List ℕ) (same : Bool) → Ok tt ≡ bounds_of (length ws) (check_from free base 0 ws plain)
      → image ≡ (check_from free base 0 ws plain).image → same ≡ same_list image wanted
      → cond same (Ok tt) (Err ImagesDiffer) ≡ verdict_by free base plain wanted ws
  unfolding bounds_of verdict_of
  whole image same e f g =
      on_test (ltb (check_from free base 0 ws plain).index (length ws))
      (λ h. let k = rw h at e in cc)
      (λ h. rw (g, f) (rw h at (walked free base plain wanted ws)))
