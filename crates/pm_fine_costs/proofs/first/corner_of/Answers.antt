use Rattle.std.proofs.Common.{◌∙◌, ◌*◌, ◌<◌, ℕ, length, sym, ap, subst}
use Rattle.std.specs.Prelude.{is_none}
use Rattle.pm_base.specs.Sides.{Net, next, twin_of}
use Rattle.pm_base.proofs.Sides.{next-lt}
use Rattle.pm_runs.specs.Surfaces.{Surface, place_at, net_of_surface, surface_of}
use Rattle.pm_shrink.proofs.PlaceTables.{none_is}
use Rattle.pm_fine_costs.proofs.FirstLaws.{open_is}
use Rattle.pm_fine_costs.proofs.first.corner_of.Goals as goal

pub returns : goal.returns
returns c =
    let mesh = c.args.surface.now in
    let e : ℕ = c.args.side.0 in
    let n : ℕ = length mesh.faces in
    let s : Surface = surface_of mesh in
    let m : Net = net_of_surface s in
    let low : c.prev-before.result.0 < 3 * n =
    subst (λ (k : ℕ). k < 3 * n) (sym c.prev-before.ensures.value)
    (next-lt n (next e) (next-lt n e c.requires)) in
    let ahead = c.place_of-2.ensures
    ∙ ap (λ (k : ℕ). place_at s (m.from k)) c.next-next.ensures.value in
    let behind = c.place_of-3.ensures
    ∙ ap (λ (k : ℕ). place_at s (m.from k)) c.prev-before.ensures.value in
    let after = open_is mesh c.twins-twins.result.now e e c.twin.result c.is_none.result
    c.twins-twins.ensures c.requires (none_is c.twin.result c.is_none.result c.is_none.ensures)
    c.twin.ensures.value in
    let before = open_is mesh c.twins-twins.result.now e c.prev-before.result.0 c.twin-2.result
    c.is_none-2.result c.twins-twins.ensures low
    (none_is c.twin-2.result c.is_none-2.result c.is_none-2.ensures) c.twin-2.ensures.value
    ∙ ap (λ (k : ℕ). is_none (twin_of m k)) c.prev-before.ensures.value in
    λ i. record {
      at = c.place_of.ensures i;
      next = ahead i;
      last = behind i;
      is_open_after = after i;
      is_open_before = before i;
    }
