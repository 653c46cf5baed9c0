-- `step::restart_processes` meets its contract. The loop's invariant: the first i processes are restarted, the rest as
-- they were. Assumes nothing.
use mathlib.Core.Path.{refl, ap, ◌∙◌}
use native.Mathlib.Omega.{arith}
use Rattle.rules.specs.Event.{restarted}
use Rattle.target.specs.Fresh.{no_process}
use Rattle.step.proofs.Laws.{front, front_more}
use Rattle.step.proofs.restart_processes.Goals as goal

pub loop-i-init : goal.loop-i-init
loop-i-init c = refl

pub loop-i-preserved : goal.loop-i-preserved
loop-i-preserved c =
    rw (c.restarted.ensures, c.loop-i.invariant) (front_more restarted c.args.processes.now no_process c.loop-i.i)

pub returns : goal.returns
returns c = c.loop-i.invariant ∙ ap (front restarted c.args.processes.now) (omega arith)
