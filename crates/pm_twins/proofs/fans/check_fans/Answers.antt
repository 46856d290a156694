use Rattle.std.proofs.Common.{◌∙◌, List, length, inl, inr, sym, subst, arith, below_more}
use Rattle.std.proofs.lemmas.Bool.{cases_lt, false≢true}
use Rattle.pm_base.specs.declared.mesh.Corners.{Corners}
use Rattle.pm_base.specs.Sides.{net_of}
use Rattle.pm_base.specs.Meshes.{mesh_of}
use Rattle.pm_base.specs.Fans.{IsFan}
use Rattle.pm_twins.specs.Faults.{IsBroken}
use Rattle.pm_twins.proofs.Whole.{mesh_whole, mesh_walkable}
use Rattle.pm_twins.proofs.Noted.{entry_known, start_is, degree_is, unused_is, past_fan}
use Rattle.pm_twins.proofs.fans.check_fans.Goals as goal
use Rattle.pm_twins.proofs.fans.check_fans.Goals.{in-Some+else-not-is_fan, in_default-start}

pub invariant_of-sides : goal.invariant_of-sides
invariant_of-sides c =
    let table = c.requires.twins in
    mesh_walkable (mesh_of c.args.mesh.now) c.as_slice.result.now c.args.twins.now.twins
    c.as_side_map.result.now c.requires.formed table.once table.twins c.as_slice.ensures
    c.as_side_map.ensures

pub is_fan-requires-clause-in_range : goal.is_fan-requires-clause-in_range
is_fan-requires-clause-in_range c =
    let known = entry_known c.in-Ok.vertices.items c.in-Ok.ensures.len c.in-Ok.ensures.known
    (omega (arith, c.loop-v-test.true)) c.index-vertex.ensures in
    (start_is known c.in-Some.start c.in-Some.is).0

pub is_fan-requires-clause-start : goal.is_fan-requires-clause-start
is_fan-requires-clause-start c =
    let known = entry_known c.in-Ok.vertices.items c.in-Ok.ensures.len c.in-Ok.ensures.known
    (omega (arith, c.loop-v-test.true)) c.index-vertex.ensures in
    (start_is known c.in-Some.start c.in-Some.is).2

pub is_fan-requires-clause-degree : goal.is_fan-requires-clause-degree
is_fan-requires-clause-degree c =
    let known = entry_known c.in-Ok.vertices.items c.in-Ok.ensures.len c.in-Ok.ensures.known
    (omega (arith, c.loop-v-test.true)) c.index-vertex.ensures in
    degree_is known c.in-Some.start c.in-Some.is

pub returns-then-not-is_fan-clause-not_fan : goal.returns-then-not-is_fan-clause-not_fan
returns-then-not-is_fan-clause-not_fan c =
    let known = entry_known c.in-Ok.vertices.items c.in-Ok.ensures.len c.in-Ok.ensures.known
    (omega (arith, c.loop-v-test.true)) c.index-vertex.ensures in
    let start = start_is known c.in-Some.start
    c.in-Some.is in
    let h = mesh_walkable (mesh_of c.args.mesh.now) c.as_slice.result.now c.args.twins.now.twins
    c.as_side_map.result.now c.requires.formed c.requires.twins.once c.requires.twins.twins
    c.as_slice.ensures c.as_side_map.ensures in
    let broken : IsBroken (net_of c.as_slice.result.now) c.loop-v.v = record {
      used = (c.in-Some.start.0, h.stands c.in-Some.start.0 start.0, start.1);
      no_fan = λ fan. absurd
          (false≢true (sym c.if-not-is_fan.true
          ∙ c.is_fan.ensures.1 (subst (IsFan (net_of c.as_slice.result.now)) (sym start.1) fan)));
    } in
    record {
      broken =
          subst (λ (fs : List Corners). IsBroken (net_of fs) c.loop-v.v) c.as_slice.ensures broken;
      fans_below = c.loop-v.invariant;
    }

pub loop-v-preserved : goal.loop-v-preserved
loop-v-preserved c =
    let known = entry_known c.in-Ok.vertices.items c.in-Ok.ensures.len c.in-Ok.ensures.known
    (omega (arith, c.loop-v-test.true)) c.index-vertex.ensures in
    below_more (IsFan (net_of c.args.mesh.now.faces.items)) c.loop-v.v c.loop-v.invariant
    (subst (λ (fs : List Corners). IsFan (net_of fs) c.loop-v.v) c.as_slice.ensures
    (elim c.match-vertex.branch [
      | in-Some+else-not-is_fan w ↦
          let start = start_is known w.in-Some.start
          w.in-Some.is in
          subst (IsFan (net_of c.as_slice.result.now)) start.1
          (w.is_fan.ensures.0 w.if-not-is_fan.false)
      | in_default-start w ↦
          unused_is known w.in_default-start.is
    ]))

pub returns-clause-manifold : goal.returns-clause-manifold
returns-clause-manifold c = record {
  no_side_twice = c.requires.twins.once;
  fans = λ v used.
      elim (cases_lt v c.len.result) [
        | inl l ↦ c.loop-v.invariant v (omega (arith, c.in-Ok.ensures.len))
        | inr l ↦ past_fan (net_of c.args.mesh.now.faces.items)
            (length c.args.mesh.now.points.items) v
            (mesh_whole (mesh_of c.args.mesh.now) c.requires.formed) (omega arith)
      ];
}
