use Rattle.std.proofs.Common.{◌∙◌, sym}
use Rattle.pm_twins.proofs.PairLaws.{paired_all}
use Rattle.pm_twins.proofs.RepeatLaws.{none_twice, first_repeating}
use Rattle.pm_twins.proofs.twins.pair_sides.Goals as goal

pub returns-in-Some-clause-edge_twice : goal.returns-in-Some-clause-edge_twice
returns-in-Some-clause-edge_twice c =
    rw c.face.ensures
    (first_repeating _ _ c.requires.whole c.in-Some.side c.loop-vertex-test.false
    c.loop-vertex.invariant.repeat (sym c.repeat.ensures ∙ c.in-Some.is))

pub returns-clause-once : goal.returns-clause-once
returns-clause-once c =
    none_twice _ _ c.requires.whole c.loop-vertex-test.false c.loop-vertex.invariant.repeat
    (sym c.repeat.ensures ∙ c.in-None.is)

pub returns-clause-twins : goal.returns-clause-twins
returns-clause-twins c =
    paired_all c.requires.whole
    (none_twice _ _ c.requires.whole c.loop-vertex-test.false c.loop-vertex.invariant.repeat
    (sym c.repeat.ensures ∙ c.in-None.is)) c.loop-vertex-test.false c.loop-vertex.invariant.paired
