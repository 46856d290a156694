use Rattle.std.proofs.Common.{◌≡◌, ◌+◌, ◌&&◌, ◌↔◌, Bool, true, is_some, sym, ap, ◌∙◌, subst}
use Rattle.pm_base.specs.Counts.{one_if, set_of}
use Rattle.pm_forest.specs.Forest.{record_at}
use Rattle.pm_forest.specs.Faces.{first_face}
use Rattle.pm_sides.specs.Told.{TellsAll, tells_face}
use Rattle.pm_sides.proofs.ToldLaws.{in_table, few_sides, tells_all}
use Rattle.pm_sides.proofs.table.SideTable.tells_all.Goals as goal

pub tells_face-requires-clause-sides : goal.tells_face-requires-clause-sides
tells_face-requires-clause-sides c =
    let h = c.args.indexed.now in
    in_table h c.args.k (first_face h c.args.k) c.args.self.now c.requires.stored.sides
    c.left_face-left.result c.left_face-left.ensures.face

pub tells_face-requires-clause-small : goal.tells_face-requires-clause-small
tells_face-requires-clause-small c =
    let h = c.args.indexed.now in
    few_sides h c.args.k (first_face h c.args.k) c.invariant.ensures c.left_face-left.result
    c.left_face-left.ensures.face

pub tells_face-requires-then-tells_face-clause-sides :
    goal.tells_face-requires-then-tells_face-clause-sides
tells_face-requires-then-tells_face-clause-sides c =
    let h = c.args.indexed.now in
    let k = c.args.k in
    in_table h k (first_face h k + one_if (is_some (record_at h k).left)) c.args.self.now
    c.requires.stored.sides c.right_face-right.result c.right_face-right.ensures.face

pub tells_face-requires-then-tells_face-clause-small :
    goal.tells_face-requires-then-tells_face-clause-small
tells_face-requires-then-tells_face-clause-small c =
    let h = c.args.indexed.now in
    let k = c.args.k in
    few_sides h k (first_face h k + one_if (is_some (record_at h k).left)) c.invariant.ensures
    c.right_face-right.result c.right_face-right.ensures.face

pub returns-then-tells_face : goal.returns-then-tells_face
returns-then-tells_face c =
    let h = c.args.indexed.now in
    let T = set_of c.args.split.now in
    let k = c.args.k in
    let left = c.left_face-left.result in
    let right = c.right_face-right.result in
    let table = c.args.self.now in
    let both = tells_all h c.invariant.ensures c.requires.once T c.requires.front k
    c.requires.is_split table c.requires.stored left right c.left_face-left.ensures.there
    c.left_face-left.ensures.face c.right_face-right.ensures.there
    c.right_face-right.ensures.face in
    subst (λ (r : Bool). (r ≡ true) ↔ TellsAll h T k)
    (ap (λ r. r && tells_face table right left) (sym c.tells_face.ensures ∙ c.if-tells_face.true)
    ∙ sym c.tells_face-then-tells_face.ensures) both

pub returns-else-tells_face : goal.returns-else-tells_face
returns-else-tells_face c =
    let h = c.args.indexed.now in
    let T = set_of c.args.split.now in
    let k = c.args.k in
    let left = c.left_face-left.result in
    let right = c.right_face-right.result in
    let table = c.args.self.now in
    let both = tells_all h c.invariant.ensures c.requires.once T c.requires.front k
    c.requires.is_split table c.requires.stored left right c.left_face-left.ensures.there
    c.left_face-left.ensures.face c.right_face-right.ensures.there
    c.right_face-right.ensures.face in
    subst (λ (r : Bool). (r ≡ true) ↔ TellsAll h T k)
    (ap (λ r. r && tells_face table right left) (sym c.tells_face.ensures ∙ c.if-tells_face.false)
    ∙ sym c.if-tells_face.false) both
