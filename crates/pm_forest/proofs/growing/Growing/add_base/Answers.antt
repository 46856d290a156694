use Rattle.std.proofs.Common.{◌≡◌, ◌<◌, [], ◌∷◌, ◌++◌, ◌∙◌, length, ap, sym, subst}
use Rattle.pm_forest.proofs.GrowthLaws.{base_added}
use Rattle.pm_forest.proofs.growing.Growing.add_base.Goals as goal

pub invariant_of-self : goal.invariant_of-self
invariant_of-self c =
    let revealed =
    c.push_within_room-2.ensures.items
    ∙ ap (λ mark. c.self.inside.revealed.items ++ mark ∷ []) c.of.ensures in
    base_added c.self.invariant _ _ _ c.args.face
    (subst (λ v. length v.h.roots ≡ v.counts.roots) (sym c.self.view_is) c.requires.roots)
    (subst (λ v. length v.h.bases < v.counts.bases) (sym c.self.view_is) c.requires.next)
    c.push_within_room-3.ensures.items c.push_within_room-3.ensures.spare
    c.push_within_room.ensures.items c.push_within_room.ensures.spare revealed
    c.push_within_room-2.ensures.spare
