-- `frame_pass::Progress::run` meets its contract. Assumes nothing.
use Rattle.std.proofs.Common.{◌≡◌, ◌+◌, sym, ◌∙◌, arith}
use Rattle.frame.proofs.Goes.{answers_nothing_lem}
use Rattle.frame_pass.proofs.Onward.{stays, one_more}
use Rattle.frame_pass.proofs.Progress.run.Goals as goal

pub loop-k-init : goal.loop-k-init
loop-k-init c =
    let z : c.args.self.at + 0 ≡ c.args.self.at = omega arith in rw z (stays _ _ _ (omega arith))

pub loop-k-preserved : goal.loop-k-preserved
loop-k-preserved c =
    let t = sym c.goes_on.ensures ∙ c.if-not-goes_on.false in
    one_more c.loop-k.invariant _ _ _ (omega arith) (omega arith) (answers_nothing_lem _ _ t) c.within-reader.ensures
    c.keep.ensures
