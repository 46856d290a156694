use Rattle.std.proofs.Common.{◌∙◌, sym, subst}
use Rattle.std.proofs.Common.{rules, FitsSigned}
use Rattle.std.proofs.lemmas.Int.{to_z-of_z}
use mir.Syntax.{w128}
use Rattle.std.specs.Prelude.{ℤ, pos, ◌≤ℤ◌}
use Rattle.pm_shrink.proofs.shrink.Shrink.is_upright.Goals as goal

pub returns : goal.returns
returns c =
    let fits : FitsSigned w128 c.dot_of_normals.result = search rules in
    let value = to_z-of_z w128 c.dot_of_normals.result fits
    ∙ rw (
      c.place_of-was.ensures,
      c.place_of-q.ensures,
      c.place_of-r.ensures,
      c.next_side.ensures.value,
      c.prev_side.ensures.value,
    ) at c.dot_of_normals.ensures in (
      λ t. subst (λ (z : ℤ). pos 0 ≤ℤ z) value (c.is_at_least_zero.ensures.0 t),
      λ up. c.is_at_least_zero.ensures.1 (subst (λ (z : ℤ). pos 0 ≤ℤ z) (sym value) up),
    )
