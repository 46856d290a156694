use Rattle.std.proofs.Common.{[], ◌∷◌, ◌++◌, ◌∙◌, ap, sym, subst}
use Rattle.pm_forest.proofs.GrowingLaws.{TakesFace}
use Rattle.pm_forest.proofs.FaceGrowth.{face_fits, face_added}
use Rattle.pm_forest.proofs.growing.Growing.add_face.Goals as goal

pub push_within_room-requires : goal.push_within_room-requires
push_within_room-requires c =
    let takes : TakesFace c.args.self.now c.args.left = record {
      there = c.requires.there;
      free = c.requires.coming;
      in_order = c.requires.in_order;
      few = c.requires.few;
    } in
    let seen = subst (λ v. TakesFace v c.args.left) (sym c.self.view_is) takes in
    (face_fits c.self.invariant c.args.left seen).0

pub push_within_room-requires-2 : goal.push_within_room-requires-2
push_within_room-requires-2 c =
    let takes : TakesFace c.args.self.now c.args.left = record {
      there = c.requires.there;
      free = c.requires.coming;
      in_order = c.requires.in_order;
      few = c.requires.few;
    } in
    let seen = subst (λ v. TakesFace v c.args.left) (sym c.self.view_is) takes in
    (face_fits c.self.invariant c.args.left seen).1

pub invariant_of-self : goal.invariant_of-self
invariant_of-self c =
    let takes : TakesFace c.args.self.now c.args.left = record {
      there = c.requires.there;
      free = c.requires.coming;
      in_order = c.requires.in_order;
      few = c.requires.few;
    } in
    let seen = subst (λ v. TakesFace v c.args.left) (sym c.self.view_is) takes in
    let revealed =
    c.push_within_room-2.ensures.items
    ∙ ap (λ mark. c.self.inside.revealed.items ++ mark ∷ []) c.of.ensures in
    face_added c.self.invariant c.args.left c.args.face seen _ _ _ _
    c.set_face.ensures c.len-number.ensures c.push_within_room.ensures.items
    c.push_within_room.ensures.spare revealed c.push_within_room-2.ensures.spare
