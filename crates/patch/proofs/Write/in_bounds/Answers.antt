-- A byte that is not free breaks the bounds.
use mathlib.Core.Path.{sym, ◌∙◌}
use native.Mathlib.Omega.{arith}
use Rattle.patch.proofs.Bounds.{barred}
use Rattle.patch.proofs.Write.in_bounds.Goals as goal

pub returns-then-not-is_free : goal.returns-then-not-is_free
returns-then-not-is_free c =
    barred _ _ _ (omega arith) (omega arith) (omega arith) c.loop-j.j (omega arith)
    (sym c.is_free.ensures ∙ c.if-not-is_free.true)
