-- `wire_text_read::reason_of` meets its contract: the table holds the texts of the reasons, in order. Assumes nothing.
use mathlib.Core.Path.{sym, ◌∙◌}
use Rattle.common.specs.Text.{codes, padded}
use Rattle.wire_text.specs.Text.{reasons, reason_name, reason_text}
use Rattle.wire_text_read.proofs.Places.{reason_some, reason_none}
use Rattle.wire_text_read.proofs.reason_of.Goals as goal

pub returns-in_err-find : goal.returns-in_err-find
unfolding reasons reason_text reason_name codes padded
returns-in_err-find c = c.from_residual.ensures ∙ reason_none _ (sym c.in_err-find.was ∙ c.find.ensures)

pub returns : goal.returns
unfolding reasons reason_text reason_name codes padded
returns c = c.at.ensures ∙ reason_some _ _ (sym c.in_ok-find.was ∙ c.find.ensures)
