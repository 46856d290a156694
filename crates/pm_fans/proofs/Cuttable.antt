-- Faces that can be cut.
use Rattle.std.proofs.Common.{◌≡◌, ℕ, ◌/◌, ◌%◌, ◌<◌, ◌≤◌, inl, inr, refl, sym, subst, List, length}
use Rattle.std.proofs.lemmas.Grind.{common_steps}
use Rattle.std.proofs.Common.{slice_index_or, arith}
use Rattle.std.proofs.lemmas.Bool.{cases_eq}
use Rattle.pm_base.specs.declared.mesh.Corners.{Corners}
use Rattle.pm_base.specs.Sides.{net_of, no_corners}
use Rattle.pm_base.proofs.NetLaws.{from-corner}
use Rattle.pm_fans.specs.Keys.{HasShortCorners}
use Rattle.pm_fans.specs.Kept.{kept_of}
use Rattle.pm_fans.specs.Splits.{AllStand, IsCuttable}
use Rattle.pm_fans.proofs.KeptLaws.{kept_are_fit}

pub short_cuttable : (fs : List Corners) → length fs ≤ 1048576 → AllStand (net_of fs)
    → ((f : ℕ) → f < length fs → HasShortCorners (slice_index_or fs f no_corners))
    → IsCuttable (net_of fs)
short_cuttable fs few stand short = record {
  short = few;
  stand = stand;
  low = λ e l.
      let at : e / 3 < length fs = omega arith in
      let s = short (e / 3) at in
      elim (cases_eq (e % 3) 0) [
        | inl is ↦ subst (λ v. v < 4294967296) (sym (from-corner fs e (e / 3) 0 refl is)) s.a
        | inr n0 ↦ grind (arith, common_steps, from-corner)
      ];
}

-- Those that stay have three different corners.
pub kept_cuttable : (all fs : List Corners) → fs ≡ kept_of all → length fs ≤ 1048576
    → ((f : ℕ) → f < length fs → HasShortCorners (slice_index_or fs f no_corners))
    → IsCuttable (net_of fs)
kept_cuttable all fs is few short =
    short_cuttable fs few
    (subst (λ (gs : List Corners). AllStand (net_of gs)) (sym is) (kept_are_fit all).0) short
