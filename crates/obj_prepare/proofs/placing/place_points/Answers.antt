use Rattle.std.proofs.Common.{◌≡◌, ◌∙◌, sym, ap, subst, length}
use Rattle.std.specs.List.{All}
use Rattle.obj_prepare.specs.Named.{chosen}
use Rattle.obj_prepare.specs.Placing.{Suits, fit_for}
use Rattle.obj_prepare.proofs.NamedLaws.{length-named_in}
use Rattle.obj_prepare.proofs.PlacingLaws.{fit_suits}
use Rattle.obj_prepare.proofs.placing.place_points.Goals as goal

pub fit_for-fit-requires-clause-flags : goal.fit_for-fit-requires-clause-flags
fit_for-fit-requires-clause-flags c = ap length (c.deref.ensures.value ∙ c.in_ok-named.ensures)
    ∙ length-named_in c.args.faces.now (length c.args.points.now)

pub places_by-requires-clause-flags : goal.places_by-requires-clause-flags
places_by-requires-clause-flags c =
    ap length (c.deref-2.ensures.value ∙ c.in_ok-named.ensures)
    ∙ length-named_in c.args.faces.now (length c.args.points.now)

pub places_by-requires-clause-suits : goal.places_by-requires-clause-suits
places_by-requires-clause-suits c =
    let same = c.deref.ensures.value ∙ sym c.deref-2.ensures.value in
    let ps = chosen c.deref-2.result.now c.args.points.now in
    let fit : c.fit_for-fit.result ≡ fit_for c.args.size ps = c.fit_for-fit.ensures.value
    ∙ ap (λ flags. fit_for c.args.size (chosen flags c.args.points.now)) same in
    subst (λ f. All (Suits f) ps) (sym fit) (fit_suits c.args.size ps c.requires.size)
