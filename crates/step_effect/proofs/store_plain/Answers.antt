-- `step_effect::store_plain` meets its contract: the loop's invariant is that entries before k are as the definition
-- has them, those from k on as they were. Assumes nothing.
use mathlib.Core.Path.{◌≡◌, refl, ap}
use mathlib.Core.List.{List}
use Prim.Native.Nat.{ℕ, ◌<◌}
use native.Mathlib.Omega.{arith}
use lib.ListN.{length, get_or, set, length-set}
use Rattle.target.specs.Fresh.{past_entries}
use Rattle.step_effect.proofs.Plains.{with_plain, four_bytes, plains_more, plains_rest, plains_done}
use Rattle.step_effect.proofs.store_plain.Goals as goal

pub loop-k-init : goal.loop-k-init
loop-k-init c = (omega arith, refl, refl)

pub loop-k-preserved : goal.loop-k-preserved
loop-k-preserved c =
    let es = c.args.entries.now in
    let us = c.loop-k.entries in
    let k = c.loop-k.k in
    let h : k < length es = omega arith in
    let z : length us ≡ length es = omega arith in
    let w = ap (λ (p : List ℕ). set us k (with_plain (get_or us k past_entries) p))
    (four_bytes c.args.plain.now k (omega arith)) in (
      simp length-set c.loop-k.invariant.0,
      plains_more es us c.args.plain.now k z h c.loop-k.invariant.2 _ w c.loop-k.invariant.1,
      plains_rest es us c.args.plain.now k z h c.loop-k.invariant.2 _ w,
    )

pub returns : goal.returns
returns c =
    plains_done c.args.entries.now c.loop-k.entries c.args.plain.now c.loop-k.k (omega arith) (omega arith)
    c.loop-k.invariant.1
