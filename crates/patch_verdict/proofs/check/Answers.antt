use Rattle.std.proofs.lemmas.Result.{err_from_is_err_and}
use Rattle.patch.specs.Check.{verdict}
use Rattle.patch_verdict.proofs.Verdicts.{broken, whole}
use Rattle.patch_verdict.proofs.check.Goals as goal

pub returns-in_err-check_all : goal.returns-in_err-check_all
unfolding verdict
returns-in_err-check_all c =
    let p = err_from_is_err_and c.from_residual.result c.from_residual.ensures.1 in
    (rw (p.1, p.2) (broken _ _ _ _ _ _ c.in_err-check_all.ensures.0), c.in_err-check_all.ensures.1)

pub returns-then-not-equal : goal.returns-then-not-equal
unfolding verdict
returns-then-not-equal c =
    let e = c.in_ok-check_all.ensures in
    let w = whole _ _ _ _ _ _ c.equal.result e.0 e.1 c.equal.ensures in
    (rw c.if-not-equal.true at w, e.1)

pub returns : goal.returns
unfolding verdict
returns c =
    let e = c.in_ok-check_all.ensures in
    let w = whole _ _ _ _ _ _ c.equal.result e.0 e.1 c.equal.ensures in
    (rw c.if-not-equal.false at w, e.1)
