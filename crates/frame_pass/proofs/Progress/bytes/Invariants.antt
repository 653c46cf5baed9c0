use Rattle.frame_pass.specs.Runs.{Runs}
use Rattle.frame_pass.proofs.Progress.bytes.Given as goal

abbrev pub invariant-loop-at : goal.invariant-loop-at
invariant-loop-at l = Runs l.fn.self (record { reader = l.reader; at = l.at }) l.piece l.initial.buffer l.buffer
