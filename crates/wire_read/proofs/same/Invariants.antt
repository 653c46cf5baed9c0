use Rattle.wire_read.proofs.Agreed.{Agreed}
use Rattle.wire_read.proofs.same.Given as goal

abbrev pub invariant-loop-i : goal.invariant-loop-i
invariant-loop-i l = Agreed l.bytes l.s l.i
