use Rattle.std.proofs.Common.{false, Bool, List, length, length-set, set, ap, arith}
use Rattle.pm_base.specs.Counts.{count, set_of}
use Rattle.pm_refine.proofs.SetLaws.{fewer_left}
use Rattle.pm_refine.proofs.doing.clear.Goals as goal

pub loop-k-smaller : goal.loop-k-smaller
loop-k-smaller c =
    let numbers = c.loop-k.numbers in
    let k = c.in-Some._k in
    let fewer = fewer_left numbers k c.in-Some.ensures.some.there in
    let same = ap (count (set_of (set numbers k false))) (length-set {A = Bool} numbers k false) in
    let taken = ap (λ (m : List Bool). count (set_of m) (length m)) c.in-Some.ensures.taken in
    omega arith
