use Rattle.std.proofs.Common.{◌<◌, ℕ, length, List, map, ap, ◌∙◌, subst, sym, arith}
use Rattle.std.specs.List.{All}
use Rattle.std.proofs.lemmas.List.{length-map}
use Rattle.pm_base.specs.declared.mesh.Corners.{Corners}
use Rattle.pm_ears.specs.Cutting.{Pieces, named}
use Rattle.pm_ears.specs.Recutting.{AreBelow, by_corners, corners_of, pieces_over}
use Rattle.pm_ears.proofs.RecutLaws.{corners_few, corners_below, cut_below, pieces_at, fan_stays}
use Rattle.pm_ears.proofs.RecutLaws.{ears_come}
use Rattle.pm_ears.proofs.recut.judge.Goals as goal

pub places_of-requires : goal.places_of-requires
places_of-requires c =
    let n = length c.args.places.now in
    subst (All (λ (v : ℕ). v < n)) (sym (c.deref.ensures.value ∙ c.in_ok-corners.ensures))
    (corners_below n c.args.fan.now c.requires.below)

pub cut_polygon-requires : goal.cut_polygon-requires
cut_polygon-requires c =
    let corners = ap length (c.deref.ensures.value ∙ c.in_ok-corners.ensures) in
    let at = simp length-map at (ap length (c.deref-2.ensures.value ∙ c.in_ok-at.ensures)) in
    record { few = omega (arith, at, corners, corners_few c.args.fan.now, c.requires.few) }

pub by_corners-requires : goal.by_corners-requires
by_corners-requires c =
    let places = c.args.places.now in
    let fan = c.args.fan.now in
    let are = c.deref-in-Ears.ensures.value ∙ c.in_ok-corners.ensures in
    let pieces = pieces_at places fan c.deref.result.now c.deref-2.result.now
    (c.deref.ensures.value ∙ c.in_ok-corners.ensures)
    (c.deref-2.ensures.value ∙ c.in_ok-at.ensures) in
    let cut = c.as_slice.ensures ∙ c.in_ok-cut.ensures.triangles
    ∙ ap (λ (p : Pieces). map named p.triangles) pieces in
    subst (λ (ts : List Corners). All (AreBelow (length c.deref-in-Ears.result.now)) ts) (sym cut)
    (subst
    (λ (l : List ℕ). All (AreBelow (length l)) (map named (pieces_over places fan).triangles))
    (sym are) (cut_below places fan))

pub returns-in-Fan : goal.returns-in-Fan
returns-in-Fan c =
    let places = c.args.places.now in
    let fan = c.args.fan.now in
    let pieces = pieces_at places fan c.deref.result.now c.deref-2.result.now
    (c.deref.ensures.value ∙ c.in_ok-corners.ensures)
    (c.deref-2.ensures.value ∙ c.in_ok-at.ensures) in
    fan_stays places fan
    (sym (c.in_ok-cut.ensures.kind ∙ ap (λ (p : Pieces). p.kind) pieces) ∙ c.in-Fan.is)

pub returns-in-Ears : goal.returns-in-Ears
returns-in-Ears c =
    let places = c.args.places.now in
    let fan = c.args.fan.now in
    let are = c.deref-in-Ears.ensures.value ∙ c.in_ok-corners.ensures in
    let pieces = pieces_at places fan c.deref.result.now c.deref-2.result.now
    (c.deref.ensures.value ∙ c.in_ok-corners.ensures)
    (c.deref-2.ensures.value ∙ c.in_ok-at.ensures) in
    let cut = c.as_slice.ensures ∙ c.in_ok-cut.ensures.triangles
    ∙ ap (λ (p : Pieces). map named p.triangles) pieces in
    let both = ears_come places fan
    (sym (c.in_ok-cut.ensures.kind ∙ ap (λ (p : Pieces). p.kind) pieces) ∙ c.in-Ears.is)
    (sym c.names_three.ensures ∙ c.if-names_three.true) in (
      both.0,
      both.1,
      c.in_ok-faces-in-Ears.ensures
          ∙ ap (λ (l : List ℕ). map (by_corners l) c.as_slice.result.now) are
          ∙ ap (map (by_corners (corners_of fan))) cut,
    )
