use Rattle.std.proofs.Common.{◌≡◌, ◌∙◌, ◌<◌, ◌+◌, ℕ, List, length, slice_index_or, ap, sym, subst}
use Rattle.std.proofs.Common.{arith}
use Rattle.std.proofs.Math.ListN.{set, replicate}
use Rattle.std.proofs.lemmas.List.{get_or_default, get_or-replicate, length-set, length-replicate}
use Rattle.pm_base.specs.Sides.{Net, net_of}
use Rattle.pm_twins.specs.declared.fans.Vertex.{Vertex}
use Rattle.pm_twins.specs.Walks.{no_vertex, IsKnown}
use Rattle.pm_twins.proofs.Noted.{known_none, known_small, all_known}
use Rattle.pm_twins.proofs.fans.note_sides.Goals as goal

pub loop-number-init : goal.loop-number-init
loop-number-init c =
    let all : c.in_ok-vertices.vertices.items ≡ replicate c.args.count no_vertex =
    c.in_ok-vertices.ensures.items_if_clones_equal (λ y same. same) in
    record {
      len = ap length all ∙ length-replicate c.args.count no_vertex;
      known = λ v l. subst (IsKnown (net_of c.args.sides.now) 0 v)
          (sym (ap (λ (vs : List Vertex). slice_index_or vs v no_vertex) all
          ∙ get_or-replicate c.args.count v no_vertex no_vertex l))
          (known_none (net_of c.args.sides.now) v);
    }

pub with_side-requires : goal.with_side-requires
with_side-requires c =
    let v : c.from-v.result < c.args.count =
    subst (λ (i : ℕ). i < c.args.count) (sym c.from-v.ensures.value)
    (c.requires c.loop-number.number (omega arith)) in
    let k = known_small (net_of c.args.sides.now) c.loop-number.number c.from-v.result
    (slice_index_or c.loop-number.vertices.items c.from-v.result no_vertex)
    (c.loop-number.invariant.known c.from-v.result v) in
    let entry = ap (λ (r : Vertex). r.degree) (c.index.ensures
    ∙ get_or_default c.loop-number.vertices.items c.from-v.result c.index.result.now no_vertex
    (omega (arith, c.loop-number.invariant.len))) in
    omega (arith, c.len-number-end.ensures.small)

pub loop-number-preserved : goal.loop-number-preserved
loop-number-preserved c =
    let m : Net = net_of c.args.sides.now in
    let vs = c.loop-number.vertices.items in
    let len = c.loop-number.invariant.len in
    let v : c.from-v.result < c.args.count =
    subst (λ (i : ℕ). i < c.args.count) (sym c.from-v.ensures.value)
    (c.requires c.loop-number.number (omega arith)) in
    let entry = c.index.ensures ∙ get_or_default vs c.from-v.result c.index.result.now no_vertex
    (omega arith) in
    let all = all_known m (record { 0 = c.loop-number.number }) c.from-v.result vs
    c.index.result.now c.is_alone.result c.from-v.ensures.stands c.is_alone.ensures
    c.from-v.ensures.value (omega arith) entry
    (λ w l. c.loop-number.invariant.known w (omega arith)) in
    record {
      len = length-set vs c.from-v.result c.with_side.result ∙ len;
      known = λ w l. subst
          (λ (r : Vertex). IsKnown m (c.loop-number.number + 1) w
          (slice_index_or (set vs c.from-v.result r) w no_vertex)) (sym c.with_side.ensures)
          (all w (omega arith));
    }
