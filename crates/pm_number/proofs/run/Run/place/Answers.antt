use Rattle.std.proofs.Common.{◌≡◌, ◌∙◌, ap, sym, arith}
use Rattle.pm_base.specs.Place.{is_place}
use Rattle.pm_number.specs.Numbering.{place_number}
use Rattle.pm_number.specs.Tables.{run_in, coordinates}
use Rattle.pm_number.proofs.Shaped.{place-true}
use Rattle.pm_number.proofs.UnitNumbers.{place_same, first_place, later_place}
use Rattle.pm_number.proofs.run.Run.place.Goals as goal
use Rattle.pm_number.proofs.run.Run.place.Goals.{then-v-points, else-v-points}

pub returns : goal.returns
returns c =
    let run = c.args.self.now in
    let p = c.if-v-points.place.now in
    let is : p ≡ place_number (run_in run) c.args.v =
    elim c.if-v-points.branch [
      | then-v-points w ↦ ap (λ b. b.now) w.place-is
          ∙ first_place run (omega arith) w.get-place.ensures
      | else-v-points w ↦ ap (λ b. b.now) w.place-is
          ∙ later_place run w.index-self-v.result c.len-points.ensures w.if-v-points.false
          (omega (arith, c.requires, c.len-points.ensures))
    ] in
    record {
      value = place_same p c.x.result c.y.result c.z.result c.x.ensures.in_range c.x.ensures.value
          c.y.ensures.value c.z.ensures.value ∙ ap coordinates is;
      on_grid = ap is_place (sym is) ∙ place-true p c.x.ensures.in_range;
    }
