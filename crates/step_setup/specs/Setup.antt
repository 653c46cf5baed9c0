-- The record that a setup leaves: a refused one the empty record.
use Rattle.std.specs.Prelude.{Result}
use Rattle.std.specs.Result.{result_unwrap_or}
use Rattle.common.specs.declared.Refusal.{Refusal}
use Rattle.target.specs.Fresh.{empty_record}
use Rattle.target.specs.declared.Target.{Target}

abbrev pub set_up : Result Target Refusal → Target
set_up result = result_unwrap_or result empty_record
