-- What the type of a record says of its value: that its arrays have their lengths, and its numbers fit.
use Rattle.std.specs.Prelude.{List}
use mir.Val.{Val}
use denote.Laws.{Is}
use Rattle.target.specs.contracts.Target as target
use Rattle.target.specs.declared.Target.{Target}

abbrev pub TypeFacts : Target → Type 0
TypeFacts t = (vs : List Val) × Is target.the_row t vs
