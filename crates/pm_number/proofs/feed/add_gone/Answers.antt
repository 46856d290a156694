use Rattle.pm_number.proofs.FeedLaws.{expects_due, due_passes, due_taken}
use Rattle.pm_number.proofs.feed.add_gone.Goals as goal

pub face-face-requires-clause-inside : goal.face-face-requires-clause-inside
face-face-requires-clause-inside c = (rw c.in-Some.is at c.requires.inside).face

pub word-first-requires-clause-inside : goal.word-first-requires-clause-inside
word-first-requires-clause-inside c = (rw c.in-Some.is at c.requires.inside).first

pub word-second-requires-clause-inside : goal.word-second-requires-clause-inside
word-second-requires-clause-inside c = (rw c.in-Some.is at c.requires.inside).second

pub add_face-requires : goal.add_face-requires
add_face-requires c = expects_due (rw c.in-Some.is at c.requires.due)

pub unreachable-requires : goal.unreachable-requires
unreachable-requires c =
    due_passes c.in_default-add_face.field-0 (rw c.in-Some.is at c.requires.due)
    (rw (c.face-face.ensures, c.word-first.ensures, c.word-second.ensures) at
    c.in_default-add_face.ensures.fault)

pub returns-in-Ok : goal.returns-in-Ok
returns-in-Ok c =
    rw c.in-Some.is (due_taken _ (rw c.in-Some.is at c.requires.due)
    (rw (c.face-face.ensures, c.word-first.ensures, c.word-second.ensures) at
    c.in-Ok.ensures.taken))
