-- `program_run::shown` meets its contract: the number at the front, and of an answer the rest in the part behind it.
-- Assumes nothing.
use Rattle.std.proofs.Common.{refl, arith, [], ◌∷◌, ◌++◌}
use lib.ListN.{length-append}
use Rattle.memory.specs.Head.{house}
use Rattle.rules.specs.Outcome.{answer_bytes}
use Rattle.program_run.proofs.Steps.{length_answer, shown_alone}
use Rattle.program_run.proofs.Writes.{writes_stored, writes_part, shown_whole}
use Rattle.program_run.proofs.shown.Goals as goal

pub overflow_add-result : goal.overflow_add-result
overflow_add-result c =
    omega (
      arith,
      c.show_reply.ensures.filled,
      length-append c.args.reply.now (answer_bytes house c.in-Ok.answer),
      length_answer c.in-Ok.answer,
    )

pub returns-in-Ok : goal.returns-in-Ok
returns-in-Ok c =
    let a = c.args in
    let bytes = a.reply.now ++ answer_bytes house c.in-Ok.answer in
    let size = length-append a.reply.now (answer_bytes house c.in-Ok.answer) in
    let few = length_answer c.in-Ok.answer in
    rw (c.in-Ok.is, shown_whole 0 bytes refl)
    (writes_part _ _ _ _ (writes_stored a.out.now _ (0 ∷ []) refl (omega arith)) (omega arith) _ _ _
    c.show_reply.ensures (omega arith))

pub returns-in-Err : goal.returns-in-Err
returns-in-Err c =
    rw (c.in-Err.is, c.number.ensures)
    (writes_stored c.args.out.now _ _ (shown_alone _ _ c.in-Err.refusal refl) (omega arith))
