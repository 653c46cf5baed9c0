-- `memory::Slots::write` meets its contract. The loop's invariant: memory and plain bytes are those after a write of
-- the first j bytes.
-- Assumes nothing.
use mathlib.Core.Path.{◌≡◌, refl, ap, ◌∙◌}
use mathlib.Core.Bool.{true}
use Prim.Native.Nat.{◌+◌, ◌<◌}
use native.Mathlib.Nat.{mul_comm}
use native.Mathlib.Omega.{arith}
use borrow.Author.Rules.{rules}
use lib.ListN.{length, length-set}
use lib.Seq.{take_all}
use Rattle.memory.specs.Overlay.{slot_of, covered}
use Rattle.memory.specs.declared.Slots.{Slots}
use Rattle.memory.proofs.Covers.{found, found_none}
use Rattle.memory.proofs.Laws.{mem_none, mem_stored, mem_kept, plain_none, plain_stored, plain_kept}
use Rattle.memory.proofs.Slots.write.Goals.{In-Some, in-Some, in-None}
use Rattle.memory.proofs.Slots.write.Goals as goal

its : (v : In-Some) → let s = v.args.self.now.sites in let i = v.args.at + v.loop-j.j in let k = v.in-Some.k in
    (k ≡ slot_of 2 s i) × (k < 8) × (covered 2 s i ≡ true)
its v = found 2 _ _ _ (search rules) (rw v.loop-j.invariant.sites_is at v.in-Some.ensures)

pub loop-j-init : goal.loop-j-init
loop-j-init c = record { mem_len = refl; sites_is = refl; mem_is = mem_none 2 _ _ _; plain_is = plain_none 2 _ _ _ }

pub overflow_mul-self : goal.overflow_mul-self
overflow_mul-self c = let h = its (goal.at.overflow_mul-self c).In-Some in omega (arith, h.1)

pub overflow_add-self : goal.overflow_add-self
overflow_add-self c = let h = its (goal.at.overflow_add-self c).In-Some in omega (arith, h.1)

pub bounds-self-k : goal.bounds-self-k
bounds-self-k c = let h = its (goal.at.bounds-self-k c).In-Some in omega (arith, h.1)

pub loop-j-preserved : goal.loop-j-preserved
loop-j-preserved c =
    let o = c.loop-j.invariant in
    let a = c.args in
    let s = a.self.now.sites in
    let b = a.bytes.now in
    let at = a.at + c.loop-j.j in
    let t = c.loop-j-test.true in
    elim c.match-slot_of.branch [
      | in-Some w ↦
          (let h = found 2 s at w.in-Some.k (search rules) (rw o.sites_is at w.in-Some.ensures) in
          record {
            mem_len = ap length w.mem-is ∙ o.mem_len;
            sites_is = ap (λ (x : Slots). x.sites) w.self-is ∙ o.sites_is;
            mem_is = w.mem-is ∙ o.mem_is ∙ mem_kept 2 s a.mem.now a.at b c.loop-j.j t h.2;
            plain_is = ap (λ (x : Slots). x.plain) w.self-is ∙ rw (o.plain_is, mul_comm 4 w.in-Some.k, h.0)
                (plain_stored 2 s a.self.now.plain a.at (omega arith) b c.loop-j.j t (omega arith) (omega arith) h.2);
          })
      | in-None w ↦
          (let h = found_none 2 s at (search rules) (rw o.sites_is at w.in-None.ensures) in
          record {
            mem_len = ap length w.mem-is ∙ simp length-set o.mem_len;
            sites_is = ap (λ (x : Slots). x.sites) w.self-is ∙ o.sites_is;
            mem_is = w.mem-is ∙ rw o.mem_is (mem_stored 2 s a.mem.now a.at b c.loop-j.j t h);
            plain_is = ap (λ (x : Slots). x.plain) w.self-is ∙ o.plain_is
                ∙ plain_kept 2 s a.self.now.plain a.at (omega arith) b c.loop-j.j t h;
          })
    ]

pub returns : goal.returns
returns c =
    let o = c.loop-j.invariant in
    let w = take_all c.loop-j.j c.args.bytes.now (omega arith) in
    record { mem_after = o.mem_is ∙ rw w; plain_after = o.plain_is ∙ rw w; sites_after = o.sites_is }
