-- `Kind::from` meets its contract: each arm has the value that the table of kinds gives its keys. Assumes nothing.
use mathlib.Core.Path.{refl}
use mathlib.Core.List.{[], ◌∷◌}
use Rattle.common.specs.Keys.{among, by_keys}
use Rattle.common.proofs.Keys.{at_keys, other_arm}
use Rattle.wire.specs.Kind.{kinds, kind_of}
use Rattle.wire.specs.declared.Kind.TheVariants.{Unsupported, Unknown}
use Rattle.wire.proofs.KindFromU8.from.Goals as goal

pub returns-in-2 : goal.returns-in-2
unfolding kind_of kinds by_keys among
returns-in-2 c = rw c.in-2.is

pub returns-in-4 : goal.returns-in-4
unfolding kind_of kinds by_keys among
returns-in-4 c = rw c.in-4.is

pub returns-in-6 : goal.returns-in-6
unfolding kind_of kinds by_keys among
returns-in-6 c = rw c.in-6.is

pub returns-in-8 : goal.returns-in-8
unfolding kind_of kinds by_keys among
returns-in-8 c = rw c.in-8.is

pub returns-in-10 : goal.returns-in-10
unfolding kind_of kinds by_keys among
returns-in-10 c = rw c.in-10.is

pub returns-in-12 : goal.returns-in-12
unfolding kind_of kinds by_keys among
returns-in-12 c = rw c.in-12.is

pub returns-in-14 : goal.returns-in-14
unfolding kind_of kinds by_keys among
returns-in-14 c = rw c.in-14.is

pub returns-in-16 : goal.returns-in-16
unfolding kind_of kinds by_keys among
returns-in-16 c = rw c.in-16.is

pub returns-in-18 : goal.returns-in-18
unfolding kind_of kinds by_keys among
returns-in-18 c = at_keys kind_of Unsupported (18 ∷ 22 ∷ []) c.args.t (refl, (refl, tt)) c.in-18.is

pub returns-in-0-to-17 : goal.returns-in-0-to-17
unfolding kind_of kinds by_keys among
returns-in-0-to-17 c =
    at_keys kind_of Unknown (3 ∷ 5 ∷ 7 ∷ 9 ∷ 11 ∷ 13 ∷ 15 ∷ 17 ∷ []) c.args.t
    (refl, (refl, (refl, (refl, (refl, (refl, (refl, (refl, tt)))))))) c.in-0-to-17.in-0-to-17-own.keys10

pub returns-in-0-to-17-2 : goal.returns-in-0-to-17-2
unfolding kind_of kinds
returns-in-0-to-17-2 c = other_arm kinds Unknown c.args.t c.in-0-to-17.in-0-to-17-own.rest.0
