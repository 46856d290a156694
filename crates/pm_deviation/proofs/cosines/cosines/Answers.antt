use Rattle.std.proofs.Common.{◌≡◌, length, replicate, get_or, ap, ◌∙◌}
use Rattle.std.proofs.Common.{refl, arith}
use Rattle.std.proofs.lemmas.List.{get_or-replicate, length-replicate}
use Rattle.pm_forest.specs.Forest.{node_count}
use Rattle.pm_deviation.specs.Normals.{x_axis, y_axis, z_axis}
use Rattle.pm_deviation.specs.Tables.{spread_among}
use Rattle.pm_deviation.proofs.CosineTables.{raised_none, raised_along, raised_all, along_small}
use Rattle.pm_deviation.proofs.CosineTables.{AreRaised}
use Rattle.pm_deviation.proofs.cosines.cosines.Goals as goal

pub raise-requires-clause-nodes : goal.raise-requires-clause-nodes
raise-requires-clause-nodes c =
    ap length c.deref.ensures.value
    ∙ (c.requires.space (spread_among c.args.h.now c.args.headings.now) (λ u v. refl)).along_x.nodes

pub raise-requires-clause-small : goal.raise-requires-clause-small
raise-requires-clause-small c =
    let h = c.args.h.now in
    let ds = c.args.headings.now in
    along_small h ds x_axis c.args.space.now.x.items c.deref.result.now c.requires.are refl
    c.deref.ensures.value (c.requires.space (spread_among h ds) (λ u v. refl)).along_x

pub raise-requires-2-clause-nodes : goal.raise-requires-2-clause-nodes
raise-requires-2-clause-nodes c =
    ap length c.deref-2.ensures.value
    ∙ (c.requires.space (spread_among c.args.h.now c.args.headings.now) (λ u v. refl)).along_y.nodes

pub raise-requires-2-clause-small : goal.raise-requires-2-clause-small
raise-requires-2-clause-small c =
    let h = c.args.h.now in
    let ds = c.args.headings.now in
    along_small h ds y_axis c.args.space.now.y.items c.deref-2.result.now c.requires.are refl
    c.deref-2.ensures.value (c.requires.space (spread_among h ds) (λ u v. refl)).along_y

pub raise-requires-3-clause-nodes : goal.raise-requires-3-clause-nodes
raise-requires-3-clause-nodes c =
    ap length c.deref-3.ensures.value
    ∙ (c.requires.space (spread_among c.args.h.now c.args.headings.now) (λ u v. refl)).along_z.nodes

pub raise-requires-3-clause-small : goal.raise-requires-3-clause-small
raise-requires-3-clause-small c =
    let h = c.args.h.now in
    let ds = c.args.headings.now in
    along_small h ds z_axis c.args.space.now.z.items c.deref-3.result.now c.requires.are refl
    c.deref-3.ensures.value (c.requires.space (spread_among h ds) (λ u v. refl)).along_z

pub loop-i-init : goal.loop-i-init
loop-i-init c =
    let h = c.args.h.now in
    let table = c.in_ok-cosines.cosines.items in
    let space = c.args.space.now in
    let zeros : table ≡ replicate (node_count h) 0 =
    c.in_ok-cosines.ensures ∙ ap (λ n. replicate n 0) c.nodes.ensures.value in
    let len : length table ≡ node_count h = ap length zeros ∙ length-replicate (node_count h) 0 in
    record {
      len = c.raise-3.ensures.len;
      raised = λ spread have.
          (let are = c.requires.space spread have in
          let none : AreRaised h spread 0 table =
          raised_none h spread table len
          (λ v l. ap (λ t. get_or t v 0) zeros ∙ get_or-replicate (node_count h) v 0 0 l) in
          let x : AreRaised h spread 1 c.raise.new.cosines.items =
          raised_along h spread 0 c.axis_at.result x_axis table c.raise.new.cosines.items
          space.x.items c.deref.result.now (omega arith) c.axis_at.ensures.value
          c.axis_at.ensures.value c.deref.ensures.value none are.along_x c.raise.ensures.len
          c.raise.ensures.raised in
          let y : AreRaised h spread 2 c.raise-2.new.cosines.items =
          raised_along h spread 1 c.axis_at-2.result y_axis c.raise.new.cosines.items
          c.raise-2.new.cosines.items space.y.items c.deref-2.result.now (omega arith)
          c.axis_at-2.ensures.value c.axis_at-2.ensures.value c.deref-2.ensures.value x are.along_y
          c.raise-2.ensures.len c.raise-2.ensures.raised in
          raised_along h spread 2 c.axis_at-3.result z_axis c.raise-2.new.cosines.items
          c.raise-3.new.cosines.items space.z.items c.deref-3.result.now (omega arith)
          c.axis_at-3.ensures.value c.axis_at-3.ensures.value c.deref-3.ensures.value y are.along_z
          c.raise-3.ensures.len c.raise-3.ensures.raised);
    }

pub loop-i-preserved : goal.loop-i-preserved
loop-i-preserved c =
    let u = c.axis_at-axis.result in
    record {
      len = c.raise-in-loop-i.ensures.len;
      raised = λ spread have. raised_along c.args.h.now spread c.loop-i.i u u c.loop-i.cosines.items
          c.raise-in-loop-i.new.cosines.items c.in_ok-spreads.spreads.items
          c.deref-in-loop-i.result.now (omega (arith, c.loop-i-test.true))
          c.axis_at-axis.ensures.value refl c.deref-in-loop-i.ensures.value
          (c.loop-i.invariant.raised spread have) (c.in_ok-spreads.ensures spread have)
          c.raise-in-loop-i.ensures.len c.raise-in-loop-i.ensures.raised;
    }

pub raise-requires-in-loop-i-clause-nodes : goal.raise-requires-in-loop-i-clause-nodes
raise-requires-in-loop-i-clause-nodes c =
    ap length c.deref-in-loop-i.ensures.value
    ∙ (c.in_ok-spreads.ensures (spread_among c.args.h.now c.args.headings.now) (λ u v. refl)).nodes

pub raise-requires-in-loop-i-clause-small : goal.raise-requires-in-loop-i-clause-small
raise-requires-in-loop-i-clause-small c =
    let h = c.args.h.now in
    let ds = c.args.headings.now in
    along_small h ds c.axis_at-axis.result c.in_ok-spreads.spreads.items
    c.deref-in-loop-i.result.now c.requires.are c.axis_at-axis.ensures.axis
    c.deref-in-loop-i.ensures.value (c.in_ok-spreads.ensures (spread_among h ds) (λ u v. refl))

pub returns : goal.returns
returns c spread have = raised_all c.args.h.now spread c.loop-i.i c.loop-i.cosines.items
    (omega (arith, c.loop-i-test.false, c.loop-i.auto.i-end))
    (c.loop-i.invariant.raised spread have)
