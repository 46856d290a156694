-- How many faces stay.
use Rattle.std.proofs.Common.{◌≡◌, ◌+◌, ◌≤◌, true, false, List, []}
use Rattle.std.proofs.lemmas.Grind.{common_steps}
use Rattle.std.proofs.Common.{◌∷◌, ◌++◌, length, arith, length-append}
use Rattle.std.specs.List.{filter}
use Rattle.std.proofs.lemmas.Bool.{cond-true, cond-false, and_parts}
use Rattle.pm_base.specs.declared.mesh.Corners.{Corners}
use Rattle.pm_fans.specs.Kept.{is_flat, is_kept_after, kept_after}

-- A face that became an edge doesn't stay.
pub kept_not_flat : (before : List Corners) (f : Corners) → is_kept_after before f ≡ true
    → is_flat f ≡ false
unfolding is_kept_after
kept_not_flat before f is = grind (arith, common_steps, and_parts)

pub kept_and_flat : (before fs : List Corners)
    → length (kept_after before fs) + length (filter is_flat fs) ≤ length before + length fs
kept_and_flat before [] = omega arith
kept_and_flat before (f ∷ fs) =
    grind (
      arith,
      common_steps,
      cond-false,
      cond-true,
      kept_not_flat,
      length-append,
      kept_and_flat (before ++ f ∷ []) fs,
      kept_and_flat before fs,
    )
