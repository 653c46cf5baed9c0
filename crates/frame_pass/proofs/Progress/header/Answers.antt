-- `frame_pass::Progress::header` meets its contract. Assumes nothing.
use Rattle.std.proofs.Common.{◌≡◌, ◌+◌, ◌-◌, sym, ap, ◌∙◌, arith}
use Rattle.frame.specs.Reader.{in_body}
use Rattle.frame.specs.declared.Reader.{Reader}
use Rattle.frame.proofs.Goes.{answers_nothing_lem, same_phase, stores_none, ends_silently, ends_unstored}
use Rattle.frame_pass.proofs.Onward.{stays, one_more, begins_silently, begins_anew, begins_unstored}
use Rattle.frame_pass.proofs.Progress.header.Goals as goal

pub loop-k-init : goal.loop-k-init
loop-k-init c =
    let e = c.requires.1 in (
      omega arith,
      ap (λ (n : Reader). n.phase) c.begun-reader.ensures,
      λ l. one_more (stays _ _ l (omega (arith, c.requires.0))) _ _ _ (omega arith) (omega (arith, c.requires.0))
          (begins_silently _ _ e) (c.begun-reader.ensures ∙ begins_anew _ _ e) (begins_unstored _ _ e l),
    )

pub loop-k-preserved : goal.loop-k-preserved
loop-k-preserved c =
    let i = c.loop-k.invariant in
    let t = sym c.goes_on.ensures ∙ c.if-not-goes_on.false in
    let none : c.loop-k.reader.phase ≡ in_body → ⊥ = λ h. omega (arith, i.1) in (
      omega arith,
      ap (λ (n : Reader). n.phase) c.within-reader.ensures ∙ same_phase _ _ t ∙ i.1,
      λ l. one_more (i.2 l) _ _ _ (omega arith) (omega (arith, c.requires.0)) (answers_nothing_lem _ _ t)
          c.within-reader.ensures (stores_none _ _ t l none),
    )

pub returns : goal.returns
returns c =
    let t = sym c.ends_header.ensures ∙ c.if-not-ends_header.false in
    let e : c.args.self.at + c.loop-k.k ≡ c.args.self.at + 11 - 1 = omega arith in
    λ l. one_more (rw e at (c.loop-k.invariant.2 l)) _ _ _ (omega arith) (omega (arith, c.requires.0))
    (ends_silently _ _ t) c.after_header.ensures (ends_unstored _ _ t l)
