-- `event::stop` meets its contract: the block is saved, and its process has its state and its mark set. Assumes
-- nothing.
use Rattle.rules.specs.Record.{with_state}
use Rattle.step_effect.proofs.Processes.{set_twice}
use Rattle.event.proofs.stop.Goals as goal

pub returns : goal.returns
unfolding with_state
returns c = (rw (set_twice c.args.t.now.processes c.args.i 8 0), c.save.ensures)
