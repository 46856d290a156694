use Rattle.std.proofs.Common.{subst}
use Rattle.std.specs.List.Sorted.{IsStrictlyIncreasing}
use Rattle.obj_prepare.proofs.FittingLaws.{keys_apart}
use Rattle.obj_prepare.proofs.apart.are_apart.Goals as goal

-- src/apart.rt:38:1
pub returns : goal.returns
returns c = λ is.
    keys_apart c.args.places.now c.in_ok-keys.keys.items c.sort_unstable.new.self.items
    c.in_ok-keys.ensures c.sort_unstable.ensures.permutation
    (subst IsStrictlyIncreasing c.deref.ensures.value (c.are_rising.ensures is))
