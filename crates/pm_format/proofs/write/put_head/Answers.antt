use Rattle.std.proofs.Common.{ap}
use Rattle.pm_io.proofs.PutLaws.{through_same}
use Rattle.pm_format.specs.Words.{spelled}
use Rattle.pm_format.proofs.write.put_head.Goals as goal

pub returns : goal.returns
returns g c =
    through_same g.K.Sink _ _ _ _ _ _ _ (ap spelled c.head_words.ensures) c.put_words.ensures
