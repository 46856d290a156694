use Rattle.std.proofs.Common.{◌*◌, ◌<◌, ℕ, None, List, length, slice_index_or, ap, ◌∙◌, arith}
use Rattle.pm_base.specs.declared.mesh.Corners.{Corners}
use Rattle.pm_base.specs.Sides.{net_of, next, prev, twin_of, around}
use Rattle.pm_base.proofs.Sides.{next-lt}
use Rattle.pm_twins.proofs.half_edges.HalfEdges.around.Goals as goal

pub prev-requires : goal.prev-requires
prev-requires c = omega (arith, ap length c.self.view_is, c.self.invariant.short)

pub get-requires : goal.get-requires
get-requires c =
    let n = length c.args.self.now in
    omega (
      arith,
      ap length c.self.view_is,
      c.self.invariant.twins.sides,
      next-lt n (next c.args.side.0) (next-lt n c.args.side.0 c.requires),
      c.prev.ensures.value,
    )

pub returns : goal.returns
unfolding around
returns c =
    let n = length c.args.self.now in
    let before : prev c.args.side.0 < 3 * n =
    next-lt n (next c.args.side.0) (next-lt n c.args.side.0 c.requires) in
    let inside : prev c.args.side.0 < 3 * length c.self.inside.faces.now =
    omega (arith, ap length c.self.view_is) in
    c.get.ensures
    ∙ ap (λ (i : ℕ). slice_index_or c.self.inside.twins.now i None) c.prev.ensures.value
    ∙ c.self.invariant.twins.each (prev c.args.side.0) inside
    ∙ ap (λ (fs : List Corners). twin_of (net_of fs) (prev c.args.side.0)) c.self.view_is
