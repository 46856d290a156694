-- A cut, by what was found of the fan and of the ears.
use Rattle.std.proofs.Common.{◌≡◌, true, false, Option, Some, None, List, refl, sym, arith}
use Rattle.std.proofs.Common.{Result, Ok, Err, IfOk, ap, ◌∙◌}
use Rattle.std.proofs.lemmas.Grind.{common_steps}
use Rattle.std.specs.Prelude.{map}
use Rattle.std.specs.List.{list_any}
use Rattle.std.specs.Option.{option_map}
use Rattle.std.proofs.lemmas.Bool.{cond-true, cond-false}
use Rattle.std.proofs.lemmas.Option.{none-some}
use Rattle.pm_base.specs.Place.{Place}
use Rattle.pm_base.specs.declared.mesh.Corners.{Corners}
use Rattle.pm_ears.specs.declared.cut.CutKind.TheVariants as kinds
use Rattle.pm_ears.specs.declared.spots.Spot.{Spot}
use Rattle.pm_ears.specs.declared.spots.Triangle.{Triangle}
use Rattle.pm_ears.specs.Planes.{spots_of}
use Rattle.pm_ears.specs.Fans.{fan}
use Rattle.pm_ears.specs.Cutting.{is_turned_over, pieces_by, few_ears, pieces_of}
use Rattle.pm_ears.specs.Cutting.{named, Pieces, IsCutOf}
use Rattle.pm_ears.specs.declared.cut.Cut.{Cut}
use Rattle.pm_ears.proofs.Taking.{some_same}

pub by_fan : (spots : List Spot) → list_any is_turned_over (fan spots) ≡ false
    → pieces_of spots ≡ record { kind = kinds.Fan; triangles = fan spots }
unfolding pieces_of
by_fan spots e = cond-false _ _ _ e

pub by_ears : (spots : List Spot) → list_any is_turned_over (fan spots) ≡ true
    → pieces_of spots ≡ pieces_by (fan spots) (few_ears spots)
unfolding pieces_of
by_ears spots e = cond-true _ _ _ e

pub cut_by_fan : (spots : List Spot) (triangles : List Corners)
    → list_any is_turned_over (fan spots) ≡ false
    → triangles ≡ map named (fan spots)
    → (kinds.Fan ≡ (pieces_of spots).kind)
    × (triangles ≡ map named (pieces_of spots).triangles)
cut_by_fan spots triangles e t = grind (arith, common_steps, by_fan)

ears_told : (f : List Triangle) (o : Option (List Triangle)) (triangles : List Corners)
    → Some triangles ≡ option_map (map named) o
    → (kinds.Ears ≡ (pieces_by f o).kind) × (triangles ≡ map named (pieces_by f o).triangles)
ears_told f None triangles e = absurd (none-some triangles (sym e))
ears_told f (Some ts) triangles e = (refl, some_same triangles (map named ts) e)

no_ears_told : (f : List Triangle) (o : Option (List Triangle)) (triangles : List Corners)
    → None ≡ option_map (map named) o → triangles ≡ map named f
    → (kinds.OverlappingFan ≡ (pieces_by f o).kind)
    × (triangles ≡ map named (pieces_by f o).triangles)
no_ears_told f None triangles e t = (refl, t)
no_ears_told f (Some ts) triangles e t = absurd (none-some (map named ts) e)

pub cut_by_ears : (spots : List Spot) (triangles : List Corners)
    → list_any is_turned_over (fan spots) ≡ true
    → Some triangles ≡ option_map (map named) (few_ears spots)
    → (kinds.Ears ≡ (pieces_of spots).kind)
    × (triangles ≡ map named (pieces_of spots).triangles)
cut_by_ears spots triangles e t = grind (arith, common_steps, by_ears, ears_told)

pub cut_by_none : (spots : List Spot) (triangles : List Corners)
    → list_any is_turned_over (fan spots) ≡ true
    → None ≡ option_map (map named) (few_ears spots) → triangles ≡ map named (fan spots)
    → (kinds.OverlappingFan ≡ (pieces_of spots).kind)
    × (triangles ≡ map named (pieces_of spots).triangles)
cut_by_none spots triangles e o t = grind (arith, common_steps, by_ears, no_ears_told)

-- The cut of corners on a plane is that of the polygon that is seen so.
pub cut_seen : {E : Type 0} (places : List Place) (spots : List Spot) (r : Result Cut E)
    → spots ≡ spots_of places → IfOk r (λ cut. cut.kind ≡ (pieces_of spots).kind)
    → IfOk r (λ cut. cut.triangles.items ≡ map named (pieces_of spots).triangles)
    → IfOk r (IsCutOf places)
cut_seen places spots (Ok cut) is kind triangles =
    let pieces = ap pieces_of is in
    record {
      kind = kind ∙ ap (λ (p : Pieces). p.kind) pieces;
      triangles = triangles ∙ ap (λ (p : Pieces). map named p.triangles) pieces;
    }
cut_seen places spots (Err e) is kind triangles = tt
