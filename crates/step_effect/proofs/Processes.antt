-- The stored processes after two fields of one are set. Assumes nothing.
use mathlib.Core.Path.{◌≡◌, refl, ap}
use mathlib.Core.List.{List, [], ◌∷◌}
use Prim.Native.Nat.{ℕ, zero, suc}
use lib.ListN.{set}
use Rattle.rules.specs.Record.{with_state}
use Rattle.target.specs.declared.Process.{Process}
use Rattle.target_fit.specs.Fit.{process_at}

-- the mark, and then the state
pub set_twice : (ps : List Process) (i state wanted : ℕ) → let p = process_at ps i in
    let qs = set ps i (with_state p p.state wanted) in
    let q = process_at qs i in
    set qs i (with_state q state q.wanted) ≡ set ps i (with_state p state wanted)
unfolding with_state
set_twice [] i state wanted = refl
set_twice (p ∷ ps) zero state wanted = refl
set_twice (p ∷ ps) (suc i) state wanted = ap (λ (qs : List Process). p ∷ qs) (set_twice ps i state wanted)
