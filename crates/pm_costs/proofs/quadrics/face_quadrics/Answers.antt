use Rattle.std.proofs.Common.{◌≡◌, ◌∙◌, List, length, get_or, take, inl, inr, refl, ap, arith}
use Rattle.std.proofs.Math.ListN.{replicate}
use Rattle.std.proofs.lemmas.List.{get_or-replicate, get_or_past, length-replicate, length-take-le}
use Rattle.std.proofs.lemmas.Bool.{cases_lt}
use Rattle.pm_base.specs.Sides.{no_corners}
use Rattle.pm_quadric.specs.Sums.{Sums, zero_sums}
use Rattle.pm_quadric.proofs.QuadricLaws.{count_is}
use Rattle.pm_runs.specs.Planes.{planes_at}
use Rattle.pm_costs.specs.Slots.{mesh_with}
use Rattle.pm_costs.proofs.PlaneTotals.{quadric-more, planes-short}
use Rattle.pm_costs.proofs.quadrics.face_quadrics.Goals as goal

pub loop-face-init : goal.loop-face-init
unfolding planes_at
loop-face-init c =
    let all : c.in_ok-quadrics.quadrics.items ≡ replicate (length c.args.points.now) zero_sums =
    c.in_ok-quadrics.ensures.items_if_clones_equal (λ y same. same)
    ∙ ap (replicate (length c.args.points.now)) c.zero.ensures in
    record {
      len = ap length all ∙ length-replicate (length c.args.points.now) zero_sums;
      each = λ v l. ap (λ (qs : List Sums). get_or qs v zero_sums) all
          ∙ get_or-replicate (length c.args.points.now) v zero_sums zero_sums l;
    }

pub add_face-requires-clause-few : goal.add_face-requires-clause-few
add_face-requires-clause-few c v =
    let i = c.loop-face.invariant in
    let qs : List Sums = c.loop-face.quadrics.items in
    elim (cases_lt v (length c.args.points.now)) [
      | inl l ↦
          let taken = take c.loop-face.face c.args.faces.now in
          let count = count_is (get_or qs v zero_sums)
          (planes_at (mesh_with c.args.points.now taken) v) (i.each v l) in
          omega (
            arith,
            count,
            planes-short c.args.points.now taken v,
            length-take-le c.loop-face.face c.args.faces.now (omega arith),
            c.requires.formed.faces,
          )
      | inr g ↦ omega
          (arith, ap (λ (s : Sums). s.count) (get_or_past qs v zero_sums (omega (arith, i.len))))
    ]

pub loop-face-preserved : goal.loop-face-preserved
loop-face-preserved c =
    let i = c.loop-face.invariant in
    record {
      len = c.add_face.ensures.len ∙ i.len;
      each = λ v l. quadric-more c.args.points.now c.args.faces.now c.loop-face.face v
          (get_or c.args.faces.now c.loop-face.face no_corners)
          (get_or c.loop-face.quadrics.items v zero_sums)
          (get_or c.add_face.new.quadrics.items v zero_sums) (omega arith)
          refl
          (i.each v l) (c.add_face.ensures.each v);
    }
