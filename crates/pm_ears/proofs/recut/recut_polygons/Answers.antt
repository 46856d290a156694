use Rattle.std.proofs.Common.{◌≡◌, ◌<◌, ◌+◌, ◌++◌, List, [], ◌∷◌, length, take, drop}
use Rattle.std.proofs.Common.{slice_index_or, ap, sym, ◌∙◌, subst, arith}
use Rattle.std.specs.List.{All}
use Rattle.std.proofs.lemmas.List.{take_more, length-take, length-drop}
use Rattle.std.proofs.lemmas.List.Elements.{All-take, All-drop}
use Rattle.pm_base.specs.declared.mesh.Corners.{Corners}
use Rattle.pm_ears.specs.declared.recut.Polygon.{Polygon}
use Rattle.pm_ears.specs.Recutting.{AreBelow, fan_at, recut_after, overlapping_count, IsFateOf}
use Rattle.pm_ears.proofs.Putting.{put_long}
use Rattle.pm_ears.proofs.Recuts.{ears_fit, one_gives, one_stays, one_told, one_untold}
use Rattle.pm_ears.proofs.recut.recut_polygons.Goals as goal
use Rattle.pm_ears.proofs.recut.recut_polygons.Goals.{in-Fan, in-Ears, in-OverlappingFan}

pub judge-requires-clause-below : goal.judge-requires-clause-below
judge-requires-clause-below c =
    let faces = c.args.faces.now in
    let none : Polygon = record { first = 0; triangles = 0 } in
    let p : Polygon = slice_index_or c.args.polygons.now c.loop-p.p-index none in
    let Below : Corners → Type 0 = AreBelow (length c.args.places.now) in
    subst (All Below) (sym c.fan_at.ensures)
    (All-take Below p.triangles (drop p.first faces)
    (All-drop Below p.first faces c.requires.below))

pub judge-requires-clause-few : goal.judge-requires-clause-few
judge-requires-clause-few c =
    let faces = c.args.faces.now in
    let none : Polygon = record { first = 0; triangles = 0 } in
    let p : Polygon = slice_index_or c.args.polygons.now c.loop-p.p-index none in
    omega (
      arith,
      ap length c.fan_at.ensures,
      length-take p.triangles (drop p.first faces),
      length-drop p.first faces,
      c.requires.few,
    )

pub put-requires : goal.put-requires
put-requires c =
    let places = c.args.places.now in
    let faces = c.args.faces.now in
    let none : Polygon = record { first = 0; triangles = 0 } in
    let i = c.loop-p.p-index in
    let p : Polygon = slice_index_or c.args.polygons.now i none in
    let l : i < length c.args.polygons.now =
    omega (arith, c.loop-p-test.true, c.loop-p.auto.p-index-end) in
    let judged =
    subst (λ f. IsFateOf places f c.in_ok-judge.field-0) c.fan_at.ensures c.in_ok-judge.ensures in
    let fate = subst (IsFateOf places (fan_at faces p)) c.in-Ears.is judged in
    ears_fit places faces c.loop-p.cut.items c.deref.result.now p fate.0
    (c.deref.ensures.value ∙ fate.2) (c.requires.within i none l) c.loop-p.invariant.long

pub loop-p-preserved : goal.loop-p-preserved
loop-p-preserved c =
    let places = c.args.places.now in
    let faces = c.args.faces.now in
    let none : Polygon = record { first = 0; triangles = 0 } in
    let i = c.loop-p.p-index in
    let p : Polygon = slice_index_or c.args.polygons.now i none in
    let ps : List Polygon = take i c.args.polygons.now in
    let cut = c.loop-p.cut.items in
    let l : i < length c.args.polygons.now =
    omega (arith, c.loop-p-test.true, c.loop-p.auto.p-index-end) in
    let more : ps ++ p ∷ [] ≡ take (i + 1) c.args.polygons.now =
    sym (take_more c.args.polygons.now i none l) in
    let after = ap (recut_after places faces faces) more in
    let counted = ap (λ (qs : List Polygon). overlapping_count places qs faces) more in
    let so_far = c.loop-p.invariant in
    let fan = fan_at faces p in
    let judged =
    subst (λ f. IsFateOf places f c.in_ok-judge.field-0) c.fan_at.ensures c.in_ok-judge.ensures in
    elim c.match-branch-4.branch [
      | in-Fan w ↦
          let fate = subst (IsFateOf places fan) w.in-Fan.is judged in
          let same = ap (λ v. v.items) w.cut-is in
          record {
            value = same ∙ one_stays places faces cut ps p so_far.value fate.0 ∙ after;
            long = ap length same ∙ so_far.long;
            told = w.overlapping-is
                ∙ one_untold places faces c.loop-p.overlapping ps p so_far.told fate.1 ∙ counted;
            few = omega (arith, w.overlapping-is, so_far.few);
          }
      | in-Ears w ↦
          let fate = subst (IsFateOf places fan) w.in-Ears.is judged in
          let ts = w.deref.result.now in
          let are = w.deref.ensures.value ∙ fate.2 in
          let new = ap (λ v. v.items) w.cut-is in
          let fits =
          ears_fit places faces cut ts p fate.0 are (c.requires.within i none l) so_far.long in
          record {
            value = new ∙ one_gives places faces cut ts w.put.new.faces.items ps p so_far.value
                fate.0 are w.put.ensures ∙ after;
            long = ap length (new ∙ w.put.ensures) ∙ put_long p.first ts cut fits ∙ so_far.long;
            told = w.overlapping-is
                ∙ one_untold places faces c.loop-p.overlapping ps p so_far.told fate.1 ∙ counted;
            few = omega (arith, w.overlapping-is, so_far.few);
          }
      | in-OverlappingFan w ↦
          let fate = subst (IsFateOf places fan) w.in-OverlappingFan.is judged in
          let same = ap (λ v. v.items) w.cut-is in
          record {
            value = same ∙ one_stays places faces cut ps p so_far.value fate.0 ∙ after;
            long = ap length same ∙ so_far.long;
            told = one_told places faces c.loop-p.overlapping c.match-branch-4.overlapping ps p
                so_far.told fate.1 w.overlapping-is ∙ counted;
            few = omega (arith, w.overlapping-is, so_far.few);
          }
    ]
