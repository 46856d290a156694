use Rattle.std.proofs.Common.{◌<◌, List, Bool, length, sym, subst}
use Rattle.pm_sets.proofs.BlockLaws.{put_in}
use Rattle.pm_sets.proofs.set.NumberSet.insert.Goals as goal

pub invariant_of-self : goal.invariant_of-self
invariant_of-self c =
    let below = subst (λ (l : List Bool). c.args.number < length l) (sym c.self.view_is)
    c.requires in
    rw (c.insert.ensures, c.insert-2.ensures)
    (put_in c.self.inside.numbers c.self.inside.blocks c.self.invariant c.args.number below)
