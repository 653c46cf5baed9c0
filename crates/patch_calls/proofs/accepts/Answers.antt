use Rattle.std.proofs.Common.{ap, ◌∙◌}
use Rattle.patch_open.specs.Open.{spoken, answer_of}
use Rattle.patch_open.proofs.Laws.{check_opened}
use Rattle.patch_calls.proofs.accepts.Goals as goal

pub returns-clause-answer : goal.returns-clause-answer
unfolding answer_of
returns-clause-answer c =
    ap spoken c.in_ok-check.ensures.0
    ∙ check_opened _ _ _ _ _ c.in_ok-window.ensures.1 c.args.ws.now c.in_ok-window.ensures.0
