-- `request_serve::started` meets its contract: the bytes are those of the reply, or of a refusal. Assumes nothing.
use Rattle.rules.specs.Outcome.{replied_with, error}
use Rattle.request_serve.proofs.started.Goals as goal

pub returns-in-Ok : goal.returns-in-Ok
unfolding replied_with
returns-in-Ok c = λ w. rw (c.in-Ok.is, c.bytes_of.ensures)

pub returns-in-Err : goal.returns-in-Err
unfolding replied_with error
returns-in-Err c = λ w. rw (c.in-Err.is, c.of.ensures)
