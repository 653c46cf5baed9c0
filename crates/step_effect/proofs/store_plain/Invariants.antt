use Rattle.std.specs.Prelude.{◌≡◌, length, take, drop}
use Rattle.step_effect.specs.Stored.{store_plains}
use Rattle.step_effect.proofs.store_plain.Given as goal

abbrev pub invariant-loop-k : goal.invariant-loop-k
invariant-loop-k l =
    (length l.entries ≡ 8) × (take l.k l.entries ≡ take l.k (store_plains l.initial.entries l.plain))
    × (drop l.k l.entries ≡ drop l.k l.initial.entries)
