use Rattle.std.proofs.Common.{refl, arith}
use Rattle.pm_base.specs.Counts.{count}
use Rattle.pm_session.proofs.level.split_count.Goals as goal

pub loop-k-init : goal.loop-k-init
unfolding count
loop-k-init c = record { number = refl; few = omega arith }
