-- `step::restarted` meets its contract: its test is the definition's. Assumes nothing.
use borrow.Author.Tests.{eq-eqb, ne_eqb}
use Rattle.rules.specs.Event.{restarted}
use Rattle.rules.specs.Record.{is_stopped, with_state}
use Rattle.step.proofs.restarted.Goals as goal

pub returns-then-p-eq-STOPPED : goal.returns-then-p-eq-STOPPED
unfolding restarted is_stopped with_state
returns-then-p-eq-STOPPED c = rw (eq-eqb _ 8 c.if-p-eq-STOPPED.true)

pub returns-else-p-eq-STOPPED : goal.returns-else-p-eq-STOPPED
unfolding restarted is_stopped with_state
returns-else-p-eq-STOPPED c = rw (ne_eqb _ 8 c.if-p-eq-STOPPED.false)
