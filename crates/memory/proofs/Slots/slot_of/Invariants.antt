use lib.Dec.{eqb}
use Rattle.common.proofs.First.{Passed}
use Rattle.memory.proofs.Slots.slot_of.Given as goal

abbrev pub invariant-loop-k : goal.invariant-loop-k
invariant-loop-k l = Passed (eqb l.over) l.self.sites 8 l.k
