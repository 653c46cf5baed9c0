-- `step_effect::type_facts` meets its contract: a slice of its entries shows what the type says. Assumes nothing.
use mathlib.Core.Path.{refl}
use Rattle.step_effect.proofs.type_facts.Goals as goal

pub returns : goal.returns
returns c = (_, (_, (refl, c.type_inv.t)))
