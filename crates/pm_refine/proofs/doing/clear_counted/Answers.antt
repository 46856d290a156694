use Rattle.std.proofs.Common.{false, Bool, List, length, length-set, set, ap, arith}
use Rattle.pm_base.specs.Counts.{count, set_of}
use Rattle.pm_refine.proofs.SetLaws.{fewer_left}
use Rattle.pm_refine.proofs.doing.clear_counted.Goals as goal

pub loop-k-smaller : goal.loop-k-smaller
loop-k-smaller c =
    let records = c.loop-k.collapses.records in
    let k = c.in-Some._k in
    let fewer = fewer_left records k c.in-Some.ensures.some.there in
    let same = ap (count (set_of (set records k false))) (length-set {A = Bool} records k false) in
    let taken = ap (λ (m : List Bool). count (set_of m) (length m)) c.in-Some.ensures.taken in
    omega arith
