-- `memory::Slots::restore` meets its contract. The loop's invariant: memory is plain memory of the slots from k on.
-- Assumes nothing.
use mathlib.Core.Path.{◌≡◌, refl, ◌∙◌}
use mathlib.Core.List.{List, [], ◌∷◌}
use Prim.Native.Nat.{ℕ, ◌+◌, ◌-◌, ◌*◌, ◌<◌}
use native.Mathlib.Nat.{mul_comm}
use native.Mathlib.Omega.{arith}
use borrow.Author.Rules.{rules}
use lib.ListN.{length, get_or, drop}
use Rattle.common.proofs.Tab.{pair_at}
use Rattle.memory.specs.Overlay.{plain_of, laid_over}
use Rattle.memory.proofs.Laws.{plain_past, plain_from}
use Rattle.memory.proofs.Slots.restore.Goals as goal

pub loop-k-init : goal.loop-k-init
loop-k-init c =
    let a = c.args in
    let z : length a.self.now.sites ≡ 8 = search rules in
    (refl, plain_past 2 a.self.now.sites _ a.mem.now 8 (omega (arith, z)))

-- one turn: the bytes of slot k go over plain memory of the slots after it
turn : (sites plain mem₀ mem : List ℕ) (k n : ℕ) → k + 1 ≡ n → k < length sites
    → mem ≡ plain_of 2 (drop n sites) (drop (n * 4) plain) mem₀
    → laid_over (get_or plain (4 * k) 0 ∷ get_or plain (4 * k + 1) 0 ∷ []) (get_or sites k 0 ∷ []) mem
    ≡ plain_of 2 (drop k sites) (drop (k * 4) plain) mem₀
turn sites plain mem₀ mem k n z h e =
    rw (e, ← z, mul_comm 4 k)
    (plain_from (get_or plain (k * 4) 0 ∷ get_or plain (k * 4 + 1) 0 ∷ []) mem₀ (omega arith) sites plain k h
    (λ r l. pair_at (λ p. get_or plain p 0) (k * 4) 0 r l))

pub loop-k-preserved : goal.loop-k-preserved
loop-k-preserved c =
    let a = c.args in
    let z : length a.self.now.sites ≡ 8 = search rules in
    let t = turn a.self.now.sites a.self.now.plain a.mem.now c.loop-k.mem (c.loop-k.k - 1) c.loop-k.k (omega arith)
    (omega (arith, z)) c.loop-k.invariant.1 in
    (c.lay.auto.mem ∙ c.loop-k.invariant.0, c.lay.ensures ∙ t)
