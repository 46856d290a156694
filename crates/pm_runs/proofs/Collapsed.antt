-- A collapse of a surface is a merge of its net.
use Rattle.std.proofs.Common.{◌≡◌, ℕ, zero, suc, ◌%◌, eqb, Bool, false, cond, ◌||◌, Option, Some}
use Rattle.std.proofs.Common.{arith}
use Rattle.std.proofs.lemmas.Grind.{common_steps}
use Rattle.std.proofs.Common.{None, List, [], ◌∷◌, length, map, refl, ap, ◌∙◌, subst}
use Rattle.std.specs.Prelude.{unwrap_or, option_and_then, slice_index_or}
use Rattle.std.proofs.lemmas.Bool.{eq-eqb, ne_eqb, or_from, or_left, or_right}
use Rattle.std.proofs.lemmas.Bool.{cond-true, cond-false}
use Rattle.std.proofs.lemmas.List.{length-map}
use Rattle.std.proofs.Math.ListN.{get_or-map}
use Rattle.std.proofs.lemmas.Option.{none-some, same_Some}
use Rattle.pm_base.specs.Place.{Place}
use Rattle.pm_base.specs.declared.mesh.Corners.{Corners}
use Rattle.pm_base.specs.Meshes.{Mesh}
use Rattle.pm_base.specs.Sides.{Net, face_of, corner_in, no_corners, net_of}
use Rattle.pm_runs.specs.Surfaces.{Surface, next_vertex, corners_at, net_of_surface, surface_of}
use Rattle.pm_runs.specs.Surfaces.{merge, merged_corners, if_distinct, collapsed}
use Rattle.pm_runs.specs.Merged.{Alike, merged}
use Rattle.pm_runs.proofs.CornerNets.{AreDistinct, net_by, corners-alike, pointwise-alike}

pub alike-trans : (m n o : Net) → Alike m n → Alike n o → Alike m o
alike-trans m n o a b p = record {
  forth = λ e st is. let f = (a p).forth e st is in let g =
      (b p).forth e f.0 f.1 in (g.0, g.1, g.2 ∙ f.2, g.3 ∙ f.3);
  back = λ e st is. let g = (b p).back e st is in let f =
      (a p).back e g.0 g.1 in (f.0, f.1, f.2 ∙ g.2, f.3 ∙ g.3);
}

pub alike-sym : (m n : Net) → Alike m n → Alike n m
alike-sym m n a p = record { forth = (a p).back; back = (a p).forth }

-- What a face becomes.
abbrev pub next_face : ℕ → ℕ → ℕ → Option Corners → Option Corners
next_face t u s f = option_and_then (λ k. if_distinct (merged_corners t u s k)) f

abbrev pub corners_in : Option Corners → Corners
corners_in f = unwrap_or f no_corners

abbrev equal_test : Corners → Bool
equal_test k = eqb k.a k.b || (eqb k.b k.c || eqb k.c k.a)

distinct-test : (k : Corners) → AreDistinct k → equal_test k ≡ false
distinct-test k d = or_from _ _ (ne_eqb _ _ d.ab) (or_from _ _ (ne_eqb _ _ d.bc) (ne_eqb _ _ d.ca))

test-distinct : (k : Corners) → equal_test k ≡ false → AreDistinct k
test-distinct k f = grind (arith, common_steps, eq-eqb, or_left, or_right)

not_distinct : AreDistinct no_corners → ⊥
not_distinct d = d.ab refl

-- A face with three different corners is kept.
pub kept_face : (t u s : ℕ) (f : Option Corners) → AreDistinct (merged_corners t u s (corners_in f))
    → corners_in (next_face t u s f) ≡ merged_corners t u s (corners_in f)
kept_face t u s None d = absurd (d.ab refl)
kept_face t u s (Some k) d =
    ap (λ b. corners_in (cond b None (Some (merged_corners t u s k))))
    (distinct-test (merged_corners t u s k) d)

-- And none with two equal ones.
pub face_kept : (t u s : ℕ) (f : Option Corners) → AreDistinct (corners_in (next_face t u s f))
    → corners_in (next_face t u s f) ≡ merged_corners t u s (corners_in f)
face_kept t u s None d = absurd (d.ab refl)
face_kept t u s (Some k) d = grind (arith, common_steps, AreDistinct, not_distinct)

pub kept_from : (t u s : ℕ) (f : Option Corners) (k : Corners) → next_face t u s f ≡ Some k
    → (f ≡ Some (corners_in f)) × (k ≡ merged_corners t u s (corners_in f)) × AreDistinct k
kept_from t u s None k is = absurd (none-some k is)
kept_from t u s (Some l) k is =
    grind (arith, common_steps, AreDistinct, none-some, same_Some, test-distinct)

-- What a face holds after a collapse.
pub collapsed-face : (s : Surface) (t u : ℕ) (place : Place) (f : ℕ)
    → slice_index_or (collapsed s t u place).faces f None
    ≡ next_face t u (next_vertex s) (slice_index_or s.faces f None)
collapsed-face s t u place f = get_or-map (next_face t u (next_vertex s)) s.faces f None

module _ (s : Surface) (t u : ℕ) (place : Place) where
  abbrev now : ℕ → Corners
  now f = merged_corners t u (next_vertex s) (corners_at s f)

  corner-merged : (k : Corners) (i : ℕ) → corner_in (merged_corners t u (next_vertex s) k) i
      ≡ merge t u (next_vertex s) (corner_in k i)
  corner-merged k i = grind (arith, common_steps, cond-false, cond-true)

  as_merged : Alike (merged (net_of_surface s) t u (next_vertex s)) (net_by (length s.faces) now)
  as_merged = pointwise-alike (merged (net_of_surface s) t u (next_vertex s))
      (net_by (length s.faces) now) refl (λ e. corner-merged (corners_at s (face_of e)) (e % 3))

  as_kept : Alike (net_by (length s.faces) now) (net_of_surface (collapsed s t u place))
  as_kept =
      corners-alike (length s.faces) (length (collapsed s t u place).faces) now
      (corners_at (collapsed s t u place)) (length-map s.faces (next_face t u (next_vertex s)))
      (λ f d. ap corners_in (collapsed-face s t u place f)
      ∙ kept_face t u (next_vertex s) (slice_index_or s.faces f None) d)
      (λ f d. ap corners_in (collapsed-face s t u place f)
      ∙ face_kept t u (next_vertex s) (slice_index_or s.faces f None)
      (subst AreDistinct (ap corners_in (collapsed-face s t u place f)) d))

  pub collapse-alike : Alike (merged (net_of_surface s) t u (next_vertex s))
      (net_of_surface (collapsed s t u place))
  collapse-alike = alike-trans _ _ _ as_merged as_kept

-- The net of a mesh is that of its surface.
input-corners : (fs : List Corners) (f : ℕ)
    → unwrap_or (slice_index_or (map Some fs) f None) no_corners ≡ slice_index_or fs f no_corners
input-corners [] f = refl
input-corners (k ∷ fs) zero = refl
input-corners (k ∷ fs) (suc f) = input-corners fs f

pub input-alike : (m : Mesh) → Alike (net_of m.faces) (net_of_surface (surface_of m))
input-alike m =
    pointwise-alike (net_of m.faces) (net_of_surface (surface_of m)) (length-map m.faces Some)
    (λ e. ap (λ (k : Corners). corner_in k (e % 3)) (input-corners m.faces (face_of e)))
