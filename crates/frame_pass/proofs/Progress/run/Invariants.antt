use Rattle.std.proofs.Common.{◌+◌}
use Rattle.frame_pass.specs.Runs.{Runs}
use Rattle.frame_pass.proofs.Progress.run.Given as goal

abbrev pub invariant-loop-k : goal.invariant-loop-k
invariant-loop-k l =
    Runs l.self (record { reader = l.reader; at = l.self.at + l.k }) l.piece l.initial.buffer l.buffer
