use Rattle.std.proofs.Common.{◌≡◌, ◌+◌, ◌≤◌}
use Rattle.frame.specs.Reader.{in_header}
use Rattle.frame_pass.specs.Runs.{Passes}
use Rattle.frame_pass.proofs.Progress.header.Given as goal

abbrev pub invariant-loop-k : goal.invariant-loop-k
invariant-loop-k l =
    (1 ≤ l.k) × (l.reader.phase ≡ in_header)
    × Passes l.self (record { reader = l.reader; at = l.self.at + l.k }) l.piece
