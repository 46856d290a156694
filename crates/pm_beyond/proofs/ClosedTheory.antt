-- The laws of closed sets, each from the lemmas on its subject.
use Rattle.std.proofs.Common.{◌≡◌, true, ◌∙◌, arith}
use Rattle.std.proofs.lemmas.Grind.{common_steps}
use Rattle.std.proofs.lemmas.Bool.{ltb-true, lt-ltb}
use Rattle.pm_forest.proofs.Shown.{shown_record}
use Rattle.pm_forest.specs.Kept.{is_shown}
use Rattle.pm_beyond.specs.ClosedLaws as law
use Rattle.pm_beyond.proofs.Found.{beyond-found}
use Rattle.pm_beyond.proofs.Standing.{forest_of, needs-older, closed-front, may_collapse-from}
use Rattle.pm_beyond.proofs.Closed.{needed-blocks, blocked-by_greater, four_faces, may_split-closes}
use Rattle.pm_beyond.proofs.Closed.{may_collapse-closes}
use Rattle.pm_beyond.proofs.Outer.{needs-true, needs-from}
use Rattle.pm_beyond.proofs.AnswerLaws.{split-done, split-from, split-blocked, collapse-done}
use Rattle.pm_beyond.proofs.AnswerLaws.{collapse-from, collapse-blocked}

pub older : law.NeedsAreOlder
older h shape = (
  needs-older h shape,
  λ n j k l e need.
      let older = needs-older h shape j k l need in
      let b = ltb-true j n e in
      lt-ltb k n (omega arith),
  closed-front h,
)

pub needed : law.NeededIsNotCollapsible
needed h valid T closed k l e = (
  λ may j m f needs. needed-blocks h valid T closed k j l may m f needs,
  λ free. may_collapse-from h valid T closed k l e free,
)

pub moves : law.LegalMovesKeepSetsClosed
moves h valid T closed k l =
    (may_split-closes h valid T closed k l, may_collapse-closes h valid T closed k l)

pub greater : law.GreaterRecordsBlock
greater h valid T closed k e l f m outer n =
    let s : is_shown h T e ≡ true = shown_record h T e k outer.0 ∙ f in
    let found = beyond-found h (forest_of h valid) valid.no_side_twice T (closed-front h T closed) e
    m s in
    let (c, j, is, r, t, g) = blocked-by_greater h valid T closed k e _ l f m outer found n in
    record { side = c; reveals = j; is_side = is; of_record = r; is_split = t; is_greater = g }

pub four_faces_enough : law.FourFacesAreEnough
four_faces_enough h valid T closed k o p b l may m outer x q =
    four_faces h valid T closed k o p b l may m outer x q

pub answers : law.AnswersAreExact
answers h valid T closed k l =
    grind (arith, common_steps, collapse-done, collapse-from, split-done, split-from)

pub blocking : law.BlockingFacesAreNamed
blocking h valid T closed k f l = grind (arith, common_steps, collapse-blocked, split-blocked)

pub decided : law.NeedsAreDecided
decided h j k l = (needs-true h j k l, needs-from h j k)
