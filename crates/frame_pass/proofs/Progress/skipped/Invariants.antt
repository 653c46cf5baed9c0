use Rattle.frame_pass.specs.Runs.{Passes}
use Rattle.frame_pass.proofs.Progress.skipped.Given as goal

abbrev pub invariant-loop-at : goal.invariant-loop-at
invariant-loop-at l = Passes l.fn.self (record { reader = l.fn.self.reader; at = l.at }) l.piece
