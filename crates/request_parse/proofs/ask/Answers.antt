-- `request_parse::ask` meets its contract: the kind of the first byte decides, and each arm answers as the
-- definition's. Assumes nothing.
use mathlib.Core.Path.{◌≡◌, ◌∙◌}
use mathlib.Core.List.{List}
use Prim.Native.Nat.{ℕ}
use borrow.Author.Tests.{eq-eqb}
use lib.ListN.{length, get_or}
use Rattle.common.specs.Bytes.{word_at}
use Rattle.wire.specs.Kind.{kind_of}
use Rattle.wire.specs.declared.Kind.{Kind}
use Rattle.wire.specs.declared.Kind.TheVariants.{Tmget, Tmput, Tproc, Tstatus, Trnote, Tstop, Tstart, Tcondbreak}
use Rattle.wire.specs.declared.Kind.TheVariants.{Unsupported, Unknown}
use Rattle.request_parse.specs.Request.{parsed_by, parse_of}
use Rattle.request_parse.proofs.ask.Goals.{After-from-k}
use Rattle.request_parse.proofs.ask.Goals as goal

-- the bytes that are read, and their first number
unfoldable bytes-at : (c : After-from-k) → List ℕ
bytes-at c = c.args.s.now

unfoldable number_at : (c : After-from-k) → ℕ
number_at c = c.word_at-v.result

-- what the kind's arm answers is the definition's
of_kind : (l : List ℕ) (v : ℕ) (q k : Kind) → length l ≡ 10 → v ≡ word_at l 1 → q ≡ kind_of (get_or l 0 0) → q ≡ k
    → parsed_by k v (get_or l 5 0) l ≡ parse_of l
unfolding parse_of
of_kind l v q k t e g h = rw (eq-eqb (length l) 10 t, ← g, h, e)

by_kind : (c : After-from-k) (k : Kind) → c.from-k.result ≡ k
    → parsed_by k (number_at c) (get_or (bytes-at c) 5 0) (bytes-at c) ≡ parse_of (bytes-at c)
unfolding bytes-at number_at
by_kind c k e =
    of_kind _ _ _ k c.requires c.word_at-v.ensures c.from-k.ensures e

pub returns-in-Tmget : goal.returns-in-Tmget
unfolding bytes-at number_at
returns-in-Tmget c = c.get.ensures ∙ by_kind (goal.at.returns-in-Tmget c).After-from-k Tmget c.in-Tmget.is

pub returns-in-Tmput : goal.returns-in-Tmput
unfolding bytes-at number_at
returns-in-Tmput c = c.put.ensures ∙ by_kind (goal.at.returns-in-Tmput c).After-from-k Tmput c.in-Tmput.is

pub returns-in-Tproc : goal.returns-in-Tproc
unfolding bytes-at number_at parsed_by
returns-in-Tproc c = c.alone.ensures ∙ by_kind (goal.at.returns-in-Tproc c).After-from-k Tproc c.in-Tproc.is

pub returns-in-Tstatus : goal.returns-in-Tstatus
unfolding bytes-at number_at parsed_by
returns-in-Tstatus c = c.alone-in-Tstatus.ensures
    ∙ by_kind (goal.at.returns-in-Tstatus c).After-from-k Tstatus c.in-Tstatus.is

pub returns-in-Trnote : goal.returns-in-Trnote
unfolding bytes-at number_at parsed_by
returns-in-Trnote c = c.alone-in-Trnote.ensures
    ∙ by_kind (goal.at.returns-in-Trnote c).After-from-k Trnote c.in-Trnote.is

pub returns-in-Tstop : goal.returns-in-Tstop
unfolding bytes-at number_at parsed_by
returns-in-Tstop c = c.alone-in-Tstop.ensures ∙ by_kind (goal.at.returns-in-Tstop c).After-from-k Tstop c.in-Tstop.is

pub returns-in-Tstart : goal.returns-in-Tstart
unfolding bytes-at number_at parsed_by
returns-in-Tstart c = c.alone-in-Tstart.ensures
    ∙ by_kind (goal.at.returns-in-Tstart c).After-from-k Tstart c.in-Tstart.is

pub returns-in-Tcondbreak : goal.returns-in-Tcondbreak
unfolding bytes-at number_at
returns-in-Tcondbreak c = c.condition.ensures
    ∙ by_kind (goal.at.returns-in-Tcondbreak c).After-from-k Tcondbreak c.in-Tcondbreak.is

pub returns-in-Unsupported : goal.returns-in-Unsupported
unfolding bytes-at number_at parsed_by
returns-in-Unsupported c = by_kind (goal.at.returns-in-Unsupported c).After-from-k Unsupported c.in-Unsupported.is

pub returns-in-Unknown : goal.returns-in-Unknown
unfolding bytes-at number_at parsed_by
returns-in-Unknown c = by_kind (goal.at.returns-in-Unknown c).After-from-k Unknown c.in-Unknown.is
