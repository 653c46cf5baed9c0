-- `request_condbreak::change_hand` meets its contract: each letter chooses the definition's request. Assumes nothing.
use native.Mathlib.Omega.{arith}
use borrow.Author.Tests.{ne_eqb}
use Rattle.rules.specs.Condition.{condbreak}
use Rattle.request_condbreak.proofs.Laws.{ready_joinable}
use Rattle.request_condbreak.proofs.change_hand.Goals as goal

pub add-requires : goal.add-requires
add-requires c = ready_joinable c.args.t.now _ _ c.type_facts.ensures.1 c.args.s.now _ c.requires.ready

pub returns-in-110 : goal.returns-in-110
unfolding condbreak
returns-in-110 c = λ regs. rw c.in-110.is (c.begin.ensures _ _ regs c.requires.ready.ids)

pub returns-in-98 : goal.returns-in-98
unfolding condbreak
returns-in-98 c = λ regs. rw c.in-98.is (c.set.ensures regs)

pub returns-in_default : goal.returns-in_default
unfolding condbreak
returns-in_default c =
    let op = c.args.op in
    λ regs.
    rw (ne_eqb op 110 (λ h. omega arith), ne_eqb op 98 (λ h. omega arith), ne_eqb op 100 c.requires.not_d)
    (c.add.ensures _ regs)
