use Rattle.std.proofs.Common.{◌-◌, length}
use Rattle.frame_pass.specs.Runs.{Runs}
use Rattle.frame_pass.proofs.Progress.eights.Given as goal

abbrev pub invariant-loop-p : goal.invariant-loop-p
invariant-loop-p l = Runs l.initial.p l.p l.piece l.initial.buffer l.buffer

abbrev pub decreases-loop-p : goal.decreases-loop-p
decreases-loop-p l = length l.piece - l.p.at
