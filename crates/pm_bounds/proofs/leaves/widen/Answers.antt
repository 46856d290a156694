use Rattle.std.proofs.Common.{◌≡◌, ◌≤◌, Some, Option, IfSome, get_or, sym, subst, arith, ◌∙◌}
use Rattle.std.proofs.lemmas.List.{get_or_default}
use Rattle.pm_base.specs.Place.{origin}
use Rattle.pm_bounds.specs.declared.normal_box.NormalBox.{NormalBox}
use Rattle.pm_bounds.specs.Boxes.{IsSmallBox}
use Rattle.pm_bounds.specs.Leaves.{bare_leaf_at, IsSmallLeaf}
use Rattle.pm_bounds.proofs.BoxLaws.{join-small}
use Rattle.pm_bounds.proofs.TableLaws.{kept}
use Rattle.pm_bounds.proofs.leaves.widen.Goals as goal

pub returns-clause-small : goal.returns-clause-small
returns-clause-small c =
    let leaves = c.args.leaves.now.items in
    let leaf = c.args.leaf in
    let bare = bare_leaf_at origin in
    let seen = c.index_mut-seen.result.now in
    let read : get_or leaves leaf bare ≡ seen =
    get_or_default leaves leaf bare seen c.requires.leaf ∙ sym c.index_mut-seen.ensures.value in
    let was : IsSmallLeaf seen = subst IsSmallLeaf read (c.requires.small leaf c.requires.leaf) in
    let square : c.max-seen.result ≤ 12884115468 =
    omega (arith, was.0, c.max-seen.ensures, c.requires.square) in
    let box : IfSome c.join-seen.result IsSmallBox =
    subst (λ (b : Option NormalBox). IfSome b IsSmallBox) (sym c.join-seen.ensures)
    (join-small seen.normals (Some c.args.face) was.1 c.requires.face) in
    kept bare IsSmallLeaf leaves leaf _ c.requires.leaf c.requires.small (square, box)
