use mathlib.Core.Path.{◌≡◌}
use Rattle.rules.specs.Event.{restarted}
use Rattle.step.proofs.Laws.{front}
use Rattle.step.proofs.restart_processes.Given as goal

abbrev pub invariant-loop-i : goal.invariant-loop-i
invariant-loop-i l = l.processes ≡ front restarted l.initial.processes l.i
