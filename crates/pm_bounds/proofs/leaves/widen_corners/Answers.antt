use Rattle.std.proofs.Common.{◌≡◌, ℕ, cond, List, get_or, set, ap, ◌∙◌, subst, arith}
use Rattle.pm_base.specs.Place.{origin}
use Rattle.pm_forest.specs.declared.parts.Face.{Face}
use Rattle.pm_forest.specs.Forest.{Hierarchy}
use Rattle.pm_forest.specs.Tables.{leaf_node_of}
use Rattle.pm_bounds.specs.declared.leaves.LeafBounds.{LeafBounds}
use Rattle.pm_bounds.specs.declared.normal_box.NormalBox.{NormalBox}
use Rattle.pm_bounds.specs.Boxes.{box_at}
use Rattle.pm_bounds.specs.Bounds.{normal_of}
use Rattle.pm_bounds.specs.Leaves.{bare_leaf_at, widened, widened_by, square_reach, is_leaf_corner}
use Rattle.pm_bounds.proofs.LeafTables.{widened-twice, place_read}
use Rattle.pm_bounds.proofs.MeasuredFaces.{IsMeasured, reach_a, reach_b, reach_c, own_normal}
use Rattle.pm_bounds.proofs.TableLaws.{three}
use Rattle.pm_bounds.proofs.leaves.widen_corners.Goals as goal

-- a leaf at a corner is widened by the face
one_wider :
    (h : Hierarchy) (f : Face) (old new : List LeafBounds) (l square : ℕ) (normal : NormalBox)
    → new ≡ set old l (widened (get_or old l (bare_leaf_at origin)) square normal)
    → square ≡ square_reach h (leaf_node_of h l) f → normal ≡ box_at (normal_of h f)
    → new ≡ set old l (widened_by h l f (get_or old l (bare_leaf_at origin)))
one_wider h f old new l square normal wider reach is =
    wider
    ∙ ap (λ n. set old l (widened (get_or old l (bare_leaf_at origin)) n normal)) reach
    ∙ ap (λ b. set old l
    (widened (get_or old l (bare_leaf_at origin)) (square_reach h (leaf_node_of h l) f) b)) is

pub returns-clause-wider : goal.returns-clause-wider
returns-clause-wider c l m =
    let h = c.args.h.now in
    let face = c.corner_leaves-face.result in
    let corners = c.corner_leaves-face.ensures in
    let leaves = c.args.leaves.now.items in
    let len = c.requires.len in
    let places = c.requires.places in
    let first = c.index.result.now.place in
    let second = c.index-2.result.now.place in
    let third = c.index-3.result.now.place in
    let is : IsMeasured h face first second third c.dist2-ab.result c.dist2-bc.result
    c.dist2-ca.result = record {
      at_a = place_read h leaves face.a c.index.result.now len places corners.a_leaf
          c.index.ensures;
      at_b = place_read h leaves face.b c.index-2.result.now len places corners.b_leaf
          c.index-2.ensures;
      at_c = place_read h leaves face.c c.index-3.result.now len places corners.c_leaf
          c.index-3.ensures;
      along_ab = c.dist2-ab.ensures.value;
      along_bc = c.dist2-bc.ensures.value;
      along_ca = c.dist2-ca.ensures.value;
    } in
    let normal = c.face_box-normal.ensures.value ∙ own_normal h face first second third _ _ _ is in
    let one = c.widen.new.leaves.items in
    let two = c.widen-2.new.leaves.items in
    let all = c.widen-3.new.leaves.items in
    let read : get_or all l (bare_leaf_at origin)
    ≡ cond (is_leaf_corner l face) (widened_by h l face (get_or leaves l (bare_leaf_at origin)))
    (get_or leaves l (bare_leaf_at origin)) =
    three (bare_leaf_at origin) (λ w b. widened_by h w face b) (widened-twice h face)
    leaves one two all face.a face.b face.c (omega (arith, corners.a_leaf, len))
    (omega (arith, corners.b_leaf, len)) (omega (arith, corners.c_leaf, len))
    (one_wider h face leaves one face.a _ _ c.widen.ensures.wider (c.max.ensures
    ∙ reach_a h face first second third _ _ _ is) normal)
    (one_wider h face one two face.b _ _ c.widen-2.ensures.wider (c.max-2.ensures
    ∙ reach_b h face first second third _ _ _ is) normal)
    (one_wider h face two all face.c _ _ c.widen-3.ensures.wider (c.max-3.ensures
    ∙ reach_c h face first second third _ _ _ is) normal) l in
    subst (λ (f : Face). get_or all l (bare_leaf_at origin)
    ≡ cond (is_leaf_corner l f) (widened_by h l f (get_or leaves l (bare_leaf_at origin)))
    (get_or leaves l (bare_leaf_at origin)))
    corners.corners read
