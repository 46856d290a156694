use Rattle.pm_prefix.proofs.FeedLaws.{due_taken}
use Rattle.pm_prefix.proofs.units.Prefix.add_face.Goals as goal

pub returns-clause-taken : goal.returns-clause-taken
returns-clause-taken c =
    rw c.in-Some.is (due_taken _ (rw c.in-Some.is at c.requires.due)
    (rw (c.face-corners.ensures, c.word_of.ensures, c.word_of-2.ensures) at
    c.in-Ok.ensures.taken))
