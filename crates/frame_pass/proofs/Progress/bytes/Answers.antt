-- `frame_pass::Progress::bytes` meets its contract. Assumes nothing.
use Rattle.std.proofs.Common.{◌≡◌, sym, ◌∙◌, arith, length}
use Rattle.frame.proofs.Goes.{answers_nothing_lem}
use Rattle.frame_pass.proofs.Onward.{stays, one_more}
use Rattle.frame_pass.proofs.Progress.bytes.Goals as goal

pub loop-at-init : goal.loop-at-init
loop-at-init c = stays _ _ _ (omega arith)

pub loop-at-preserved : goal.loop-at-preserved
loop-at-preserved c =
    let t = sym c.goes_on.ensures ∙ c.if-not-goes_on.false in
    one_more c.loop-at.invariant _ _ _ (omega arith) (omega arith) (answers_nothing_lem _ _ t) c.within-reader.ensures
    c.keep.ensures

pub returns : goal.returns
returns c =
    let e : c.loop-at.at ≡ length c.args.piece.now = omega arith in rw e at c.loop-at.invariant
