-- The loop's invariant: the first j bytes are free.
use mathlib.Core.Path.{◌≡◌}
use mathlib.Core.Bool.{true}
use Prim.Native.Nat.{◌+◌}
use Rattle.common.specs.Every.{every}
use Rattle.patch.specs.Check.{is_free}
use Rattle.patch.proofs.Write.in_bounds.Given as goal

abbrev pub invariant-loop-j : goal.invariant-loop-j
invariant-loop-j l = every l.j (λ k. is_free l.size l.window.from l.window.to (l.at + k)) ≡ true
