use Rattle.std.proofs.Common.{◌≡◌, ◌∙◌, ℕ, ◌++◌, ◌-◌, List, Option, Some, None, length, map, ap}
use Rattle.std.proofs.Common.{arith}
use Rattle.std.proofs.Math.ListN.{replicate}
use Rattle.std.proofs.lemmas.List.{length-map}
use Rattle.std.specs.Prelude.{vec_len}
use Rattle.pm_base.specs.Place.{Place}
use Rattle.std.proofs.lemmas.List.{take_all}
use Rattle.pm_shrink.proofs.setup.places_with_room.Goals as goal

pub returns : goal.returns
returns c =
    let there = c.in_ok-places.ensures in
    let len = ap length there ∙ length-map c.args.points.now Some in
    let n : ℕ = length c.args.points.now in
    let have : vec_len c.in_ok-places.places ≡ n = omega (arith, len) in
    let old : List (Option Place) = c.in_ok-places.places.items in
    c.in_ok-resize.ensures.items
    ∙ ap (λ (k : List (Option Place)). k
    ++ replicate (c.args.room - vec_len c.in_ok-places.places) None)
    (take_all c.args.room old (omega arith) ∙ there)
    ∙ ap (λ (k : ℕ). map Some c.args.points.now ++ replicate (c.args.room - k) None) have
