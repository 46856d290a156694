use Rattle.std.proofs.Common.{Bool, List, false, length, length-set, ap, ◌∙◌, arith}
use Rattle.pm_change.specs.Gathering.{size_of}
use Rattle.pm_change.proofs.TellLaws.{size_left}
use Rattle.pm_change.proofs.sets.clear.Goals as goal

pub loop-number-smaller : goal.loop-number-smaller
loop-number-smaller g c =
    let left = size_left c.loop-number.set c.in-Some._number c.in-Some.ensures.some.there in
    let taken = ap size_of c.in-Some.ensures.taken in
    omega arith

pub loop-number-preserved : goal.loop-number-preserved
loop-number-preserved g c =
    let left = size_left c.loop-number.set c.in-Some._number c.in-Some.ensures.some.there in
    let taken = ap size_of c.in-Some.ensures.taken in
    let tick = c.tick.ensures in
    let cost = c.loop-number.invariant.cost in
    record {
      len = ap (λ (m : List Bool). length m) c.in-Some.ensures.taken
          ∙ length-set {A = Bool} c.loop-number.set c.in-Some._number false
          ∙ c.loop-number.invariant.len;
      cost = omega arith;
    }
