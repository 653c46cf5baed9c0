-- `memory::Slots::plain_at` meets its contract: each return is one case of the definition. Assumes nothing.
use mathlib.Core.Path.{◌≡◌, sym, ◌∙◌}
use mathlib.Core.Bool.{true}
use Prim.Native.Nat.{◌<◌}
use native.Mathlib.Nat.{mul_comm}
use native.Mathlib.Omega.{arith}
use borrow.Author.Rules.{rules}
use lib.ListN.{get_or-eq_default}
use Rattle.memory.specs.Overlay.{slot_of, covered}
use Rattle.memory.proofs.Covers.{found, found_none}
use Rattle.memory.proofs.Bytes.{plain_under, plain_bare}
use Rattle.memory.proofs.Slots.plain_at.Goals.{In-Some}
use Rattle.memory.proofs.Slots.plain_at.Goals as goal

its : (v : In-Some) → let s = v.args.self.now.sites in let i = v.args.at in let k = v.in-Some.k in
    (k ≡ slot_of 2 s i) × (k < 8) × (covered 2 s i ≡ true)
its v = found 2 _ _ _ (search rules) v.in-Some.ensures

pub overflow_mul-result : goal.overflow_mul-result
overflow_mul-result c = let h = its (goal.at.overflow_mul-result c).In-Some in omega (arith, h.1)

pub overflow_add-result : goal.overflow_add-result
overflow_add-result c = let h = its (goal.at.overflow_add-result c).In-Some in omega (arith, h.1)

pub bounds-self-k : goal.bounds-self-k
bounds-self-k c = let h = its (goal.at.bounds-self-k c).In-Some in omega (arith, h.1)

pub returns-in-Some : goal.returns-in-Some
returns-in-Some c =
    let a = c.args in
    let h = its (goal.at.returns-in-Some c).In-Some in
    rw (mul_comm 4 c.in-Some.k, h.0) (sym (plain_under 2 a.self.now.sites a.self.now.plain a.mem.now a.at h.2))

pub returns-then-at-mem : goal.returns-then-at-mem
returns-then-at-mem c = sym (plain_bare 2 _ _ _ _ (found_none 2 _ _ (search rules) c.in-None.ensures))

pub returns-else-at-mem : goal.returns-else-at-mem
returns-else-at-mem c =
    let a = c.args in
    sym (plain_bare 2 _ _ _ _ (found_none 2 _ _ (search rules) c.in-None.ensures)
    ∙ get_or-eq_default a.mem.now 0 {n = a.at} c.if-at-mem.false)
