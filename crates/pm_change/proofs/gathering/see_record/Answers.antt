use Rattle.std.proofs.Common.{◌≡◌, true, sym, ◌∙◌}
use Rattle.pm_base.specs.Counts.{set_of}
use Rattle.pm_beyond.proofs.Standing.{closed-front}
use Rattle.pm_change.proofs.FoundLaws.{no_face_gone}
use Rattle.pm_change.proofs.gathering.see_record.Goals as goal

pub returns-else-not-is_split-clause-seen : goal.returns-else-not-is_split-clause-seen
returns-else-not-is_split-clause-seen g c =
    let h = c.args.front.now.h in
    let S = set_of c.args.marks.now in
    let G = set_of c.args.front.now.flags in
    let e = c.invariant.ensures in
    let split : G c.args.k ≡ true = sym c.is_split.ensures ∙ c.if-not-is_split.false in
    record {
      gone_faces = no_face_gone h e.valid.shape S G (closed-front h S c.requires.told.closed)
          (closed-front h G e.closed) c.args.k c.args.sets.now.gone_faces split;
      gone_nodes = c.see_nodes.ensures.gone_seen;
      new_nodes = c.see_nodes.ensures.new_seen;
    }
