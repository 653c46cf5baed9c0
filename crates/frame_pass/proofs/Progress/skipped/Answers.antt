-- `frame_pass::Progress::skipped` meets its contract. Assumes nothing.
use Rattle.std.proofs.Common.{◌≡◌, arith, length}
use Rattle.frame_pass.proofs.Onward.{stays, one_more, skips_silently, skips_alone, skips_unstored}
use Rattle.frame_pass.proofs.Progress.skipped.Goals as goal

pub loop-at-init : goal.loop-at-init
loop-at-init c = λ l. stays _ _ l (omega arith)

pub loop-at-preserved : goal.loop-at-preserved
loop-at-preserved c =
    let z = c.if-self-ne0.false in
    let n = c.if-piece-at-eq-BEGIN.false in
    λ l. one_more (c.loop-at.invariant l) _ _ _ (omega arith) (omega arith) (skips_silently _ _ n z)
    (skips_alone _ _ n z) (skips_unstored _ _ n z l)

pub returns : goal.returns
returns c =
    let e : c.loop-at.at ≡ length c.args.piece.now = omega arith in rw e at c.loop-at.invariant
