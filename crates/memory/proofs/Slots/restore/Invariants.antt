use mathlib.Core.Path.{◌≡◌}
use Prim.Native.Nat.{◌*◌}
use lib.ListN.{length, drop}
use Rattle.memory.specs.Overlay.{plain_of}
use Rattle.memory.proofs.Slots.restore.Given as goal

abbrev pub invariant-loop-k : goal.invariant-loop-k
invariant-loop-k l =
    (length l.mem ≡ length l.initial.mem)
    × (l.mem ≡ plain_of 2 (drop l.k l.self.sites) (drop (l.k * 4) l.self.plain) l.initial.mem)
