use Rattle.std.proofs.Common.{◌≡◌, true, false, Some, None, sym, ap, ◌∙◌}
use Rattle.std.specs.Prelude.{map}
use Rattle.std.specs.List.{list_any}
use Rattle.std.specs.Option.{option_map}
use Rattle.pm_ears.specs.Fans.{fan}
use Rattle.pm_ears.specs.Cutting.{few_ears, is_turned_over, named}
use Rattle.pm_ears.proofs.Cuts.{cut_by_fan, cut_by_ears, cut_by_none}
use Rattle.pm_ears.proofs.cut.cut_spots.Goals as goal

pub returns-then-not-overlaps : goal.returns-then-not-overlaps
returns-then-not-overlaps c =
    let flat : list_any is_turned_over (fan c.args.spots.now) ≡ false =
    sym c.overlaps.ensures ∙ c.if-not-overlaps.true in
    let both = cut_by_fan c.args.spots.now c.in_ok-triangles.triangles.items flat
    c.in_ok-triangles.ensures in
    record { kind = both.0; triangles = both.1 }

pub returns-in-Some : goal.returns-in-Some
returns-in-Some c =
    let over : list_any is_turned_over (fan c.args.spots.now) ≡ true =
    sym c.overlaps.ensures ∙ c.if-not-overlaps.false in
    let told : Some c.in-Some.triangles.items
    ≡ option_map (map named) (few_ears c.args.spots.now) =
    sym (ap (option_map (λ t. t.items)) c.in-Some.is) ∙ c.in_ok-triangles-2.ensures in
    let both = cut_by_ears c.args.spots.now c.in-Some.triangles.items over told in
    record { kind = both.0; triangles = both.1 }

pub returns-in_ok-triangles-in-None : goal.returns-in_ok-triangles-in-None
returns-in_ok-triangles-in-None c =
    let over : list_any is_turned_over (fan c.args.spots.now) ≡ true =
    sym c.overlaps.ensures ∙ c.if-not-overlaps.false in
    let told : None ≡ option_map (map named) (few_ears c.args.spots.now) =
    sym (ap (option_map (λ t. t.items)) c.in-None.is) ∙ c.in_ok-triangles-2.ensures in
    let both = cut_by_none c.args.spots.now c.in_ok-triangles-in-None.triangles.items over told
    c.in_ok-triangles-in-None.ensures in
    record { kind = both.0; triangles = both.1 }
