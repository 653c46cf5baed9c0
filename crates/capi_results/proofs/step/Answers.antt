-- `capi_results::step` meets its contract: the step's number and answer, packed. Assumes nothing.
use Rattle.capi_results.proofs.Laws.{steps}
use Rattle.capi_results.proofs.step.Goals as goal

pub returns : goal.returns
returns c =
    let a = c.args in
    let s = c.step in
    rw c.result_of.ensures
    (steps a.kind a.t.now a.places.now a.mem.now a.regs.now a.pid a.value a.input.now a.reply.now s.result _ _ _ _ _
    s.ensures.reply_after s.ensures.err)
