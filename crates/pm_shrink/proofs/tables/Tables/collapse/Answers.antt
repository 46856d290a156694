use Rattle.pm_shrink.specs.Tables.{tables_of}
use Rattle.pm_shrink.proofs.CollapseLaws.{can_drop_left, can_drop_right, can_merge_first}
use Rattle.pm_shrink.proofs.CollapseLaws.{can_merge_second, have_places}
use Rattle.pm_shrink.proofs.MergedShrink.{AreWritten, done-surface, done-shrink}
use Rattle.pm_shrink.proofs.tables.Tables.collapse.Goals as goal

pub drop_face-requires : goal.drop_face-requires
drop_face-requires c = can_drop_left c.requires.kept c.requires.step

pub drop_face-requires-2 : goal.drop_face-requires-2
drop_face-requires-2 c = can_drop_right c.requires.kept c.requires.step c.drop_face.ensures

pub merge_corners-requires : goal.merge_corners-requires
merge_corners-requires c =
    can_merge_first c.requires.kept c.requires.step c.drop_face.ensures c.drop_face-2.ensures

pub merge_corners-requires-2 : goal.merge_corners-requires-2
merge_corners-requires-2 c =
    can_merge_second c.requires.kept c.requires.step c.drop_face.ensures c.drop_face-2.ensures
    c.merge_corners.ensures.value

pub merge_places-requires : goal.merge_places-requires
merge_places-requires c =
    have_places c.requires.kept c.requires.step c.drop_face.ensures c.drop_face-2.ensures
    c.merge_corners.ensures.value c.merge_corners-2.ensures.value

pub returns : goal.returns
returns c =
    let w : AreWritten (tables_of c.args.self.now) c.args.entry.now (tables_of c.drop_face.new.self)
    (tables_of c.drop_face-2.new.self) (tables_of c.merge_corners.new.self)
    (tables_of c.merge_corners-2.new.self) (tables_of c.merge_places.new.self) = record {
      kept = c.requires.kept;
      step = c.requires.step;
      left = c.drop_face.ensures;
      right = c.drop_face-2.ensures;
      first = c.merge_corners.ensures.value;
      second = c.merge_corners-2.ensures.value;
      placed = c.merge_places.ensures;
      sound = c.merge_corners-2.ensures.sound;
    } in
    record { kept = done-shrink w; surface = done-surface w }
