-- `memory::slot_of` meets its contract. The loop's invariant: no site before slot k covers the offset. Assumes nothing.
use mathlib.Core.Path.{sym}
use borrow.Author.Rules.{rules}
use borrow.Author.Tests.{eq-eqb, ne_eqb}
use Rattle.common.proofs.First.{begin, pass}
use Rattle.memory.specs.Overlay.{site_over, slot_of}
use Rattle.target.proofs.Index.{search_stops, search_ends}
use Rattle.memory.proofs.Slots.slot_of.Goals as goal

pub loop-k-init : goal.loop-k-init
loop-k-init c = begin _ _ 8 (search rules)

pub loop-k-preserved : goal.loop-k-preserved
loop-k-preserved c = pass _ _ 0 8 _ c.loop-k.invariant c.loop-k-test.true (ne_eqb _ _ (λ e. c.if-site-over.false
    (sym e)))

pub returns-then-site-over : goal.returns-then-site-over
unfolding slot_of site_over
returns-then-site-over c =
    search_stops _ _ 0 8 _ c.loop-k.invariant c.loop-k-test.true (eq-eqb _ _ (sym c.if-site-over.true))

pub returns : goal.returns
unfolding slot_of site_over
returns c = search_ends _ _ 0 8 _ c.loop-k.invariant c.loop-k-test.false
