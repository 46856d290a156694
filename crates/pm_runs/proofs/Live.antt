-- Live vertices: the corners of faces that are there, and what a collapse makes of them.
use Rattle.std.proofs.Common.{◌≡◌, ◌≢◌, ℕ, zero, suc, ◌+◌, ◌<◌, true, Option, Some, None, List, []}
use Rattle.std.proofs.lemmas.Grind.{common_steps}
use Rattle.std.proofs.Common.{◌∷◌, length, map, inl, inr, refl, sym, ap, ◌∙◌, subst, arith}
use Rattle.std.specs.Prelude.{is_some, unwrap_or, slice_index_or, slice_set}
use Rattle.std.proofs.lemmas.Bool.{cases_eq}
use Rattle.std.proofs.lemmas.List.{length-set, length-append, get_or-set_same, get_or-set_other}
use Rattle.std.proofs.lemmas.List.{get_or_append_left}
use Rattle.std.proofs.Math.ListN.{get_or-eq_default}
use Rattle.std.proofs.Math.Seq.{get_or-append_seam}
use Rattle.std.proofs.lemmas.List.Elements.{All-get_or}
use Rattle.std.proofs.lemmas.Option.{none-some, same_Some}
use Rattle.pm_base.specs.Place.{Place, place_of}
use Rattle.pm_base.specs.declared.mesh.Corners.{Corners}
use Rattle.pm_base.specs.Meshes.{Mesh, IsFace, IsWellFormed}
use Rattle.pm_base.specs.Sides.{face_of, no_corners, Stands}
use Rattle.pm_runs.specs.Surfaces.{Surface, next_vertex, is_live, place_at, corners_at}
use Rattle.pm_runs.specs.Surfaces.{net_of_surface, surface_of, IsLiveFace, IsSurface, merge}
use Rattle.pm_runs.specs.Surfaces.{merged_places, collapsed}
use Rattle.pm_runs.specs.Merged.{IsFresh}
use Rattle.pm_runs.proofs.Merges.{merge-pair, merge-other}
use Rattle.pm_runs.proofs.CornerNets.{AreDistinct, side_cases, stands_distinct}
use Rattle.pm_runs.proofs.Collapsed.{corners_in, collapsed-face, kept_from}

-- A live vertex has a number below the next one.
some_below : (ps : List (Option Place)) (v : ℕ) → is_some (slice_index_or ps v None) ≡ true
    → v < length ps
some_below ps v live = grind (arith, common_steps, get_or-eq_default ps None)

pub live_below : (s : Surface) (v : ℕ) → is_live s v ≡ true → v < next_vertex s
live_below s v live = some_below s.places v live

-- The face of a side that stands is there.
face_there : (f : Option Corners) → AreDistinct (corners_in f) → f ≡ Some (corners_in f)
face_there None d = absurd (d.ab refl)
face_there (Some k) d = refl

pub stands_face : (s : Surface) (e : ℕ) → Stands (net_of_surface s) e
    → slice_index_or s.faces (face_of e) None ≡ Some (corners_at s (face_of e))
stands_face s e st =
    face_there (slice_index_or s.faces (face_of e) None)
    (stands_distinct (length s.faces) (corners_at s) e st)

-- It runs from a live vertex.
pub corner_live : (s : Surface) → IsSurface s → (e : ℕ) → Stands (net_of_surface s) e
    → is_live s ((net_of_surface s).from e) ≡ true
corner_live s sound e st =
    let f : IsLiveFace s (corners_at s (face_of e)) =
    sound (face_of e) (corners_at s (face_of e)) (stands_face s e st) in
    elim (side_cases (length s.faces) (corners_at s) e (face_of e) refl) [
      | inl t ↦ ap (is_live s) t.from_is ∙ f.a
      | inr h ↦ elim h [
        | inl t ↦ ap (is_live s) t.from_is ∙ f.b
        | inr t ↦ ap (is_live s) t.from_is
            ∙ f.c
      ]
    ]

pub surface-fresh : (s : Surface) → IsSurface s → IsFresh (net_of_surface s) (next_vertex s)
surface-fresh s sound e st is = let l =
    live_below s ((net_of_surface s).from e) (corner_live s sound e st) in absurd (omega arith)

-- What stands at each number after a collapse.
module _ (s : Surface) (t u : ℕ) (place : Place) where
  abbrev without_both : List (Option Place)
  without_both = slice_set (slice_set s.places t None) u None

  length_without : length without_both ≡ length s.places
  length_without = length-set (slice_set s.places t None) u None ∙ length-set s.places t None

  pub next-after : next_vertex (collapsed s t u place) ≡ next_vertex s + 1
  next-after = length-append without_both (Some place ∷ []) ∙ ap (λ n. n + 1) length_without

  pub new_place : slice_index_or (collapsed s t u place).places (next_vertex s) None ≡ Some place
  new_place = subst (λ n. slice_index_or (merged_places t u place s.places) n None ≡ Some place)
      length_without (get_or-append_seam without_both (Some place) [] None)

  pub old_place : (v : ℕ) → v ≢ next_vertex s → v ≢ t → v ≢ u
      → slice_index_or (collapsed s t u place).places v None ≡ slice_index_or s.places v None
  old_place v n_s n_t n_u =
      grind (
        arith,
        common_steps,
        get_or-eq_default,
        get_or-set_other,
        get_or_append_left,
        length_without,
        next-after,
      )

  pub gone_first : t < next_vertex s → slice_index_or (collapsed s t u place).places t None ≡ None
  gone_first l =
      get_or_append_left without_both (Some place ∷ []) None t (let n = length_without in
      omega arith) ∙
      elim (cases_eq t u) [
        | inl is ↦ subst (λ i. slice_index_or (slice_set (slice_set s.places t None) i None) t None
            ≡ None) is (get_or-set_same (slice_set s.places t None) t None None
            (let n = length-set s.places t None in omega arith))
        | inr ne ↦ get_or-set_other (slice_set s.places t None) u t None None ne
            ∙ get_or-set_same s.places t None None l
      ]

  pub gone_second : u < next_vertex s → slice_index_or (collapsed s t u place).places u None ≡ None
  gone_second l =
      grind (arith, common_steps, get_or-set_same, get_or_append_left, length-set, length_without)

  -- the same as live vertices and places
  pub new_live : is_live (collapsed s t u place) (next_vertex s) ≡ true
  new_live = ap is_some new_place

  pub new_at : place_at (collapsed s t u place) (next_vertex s) ≡ place
  new_at = ap (λ p. unwrap_or p (place_of [])) new_place

  pub old_live : (v : ℕ) → v ≢ next_vertex s → v ≢ t → v ≢ u → is_live (collapsed s t u place) v
      ≡ is_live s v
  old_live v a b c = ap is_some (old_place v a b c)

  pub old_at : (v : ℕ) → v ≢ next_vertex s → v ≢ t → v ≢ u → place_at (collapsed s t u place) v
      ≡ place_at s v
  old_at v a b c = ap (λ p. unwrap_or p (place_of [])) (old_place v a b c)

  -- a corner that was live is live under its new number
  pub merged_live : (v : ℕ) → is_live s v ≡ true
      → is_live (collapsed s t u place) (merge t u (next_vertex s) v) ≡ true
  merged_live v live =
      grind (
        arith,
        common_steps,
        new_live,
        live_below s v live,
        merge-other t u (next_vertex s) v,
        merge-pair t u (next_vertex s) t u (inl (refl, refl)),
        old_live v,
      )

-- A surface stays one.
pub collapse-sound : (s : Surface) → IsSurface s → (t u : ℕ) (place : Place)
    → IsSurface (collapsed s t u place)
collapse-sound s sound t u place f k is =
    let (old, same, d) = kept_from t u (next_vertex s) (slice_index_or s.faces f None) k
    (sym (collapsed-face s t u place f) ∙ is) in
    let l : IsLiveFace s (corners_at s f) = sound f (corners_at s f) old in
    record {
      a = ap (λ (c : Corners). is_live (collapsed s t u place) c.a) same
          ∙ merged_live s t u place (corners_at s f).a l.a;
      b = ap (λ (c : Corners). is_live (collapsed s t u place) c.b) same
          ∙ merged_live s t u place (corners_at s f).b l.b;
      c = ap (λ (c : Corners). is_live (collapsed s t u place) c.c) same
          ∙ merged_live s t u place (corners_at s f).c l.c;
      ab = d.ab;
      bc = d.bc;
      ca = d.ca;
    }

-- A well-formed mesh gives one.
some_face : (fs : List Corners) (f : ℕ) (k : Corners) → slice_index_or (map Some fs) f None ≡ Some k
    → (f < length fs) × (slice_index_or fs f no_corners ≡ k)
some_face [] f k is = absurd (none-some k is)
some_face (l ∷ fs) zero k is = (omega arith, same_Some l k is)
some_face (l ∷ fs) (suc f) k is = let (a, b) = some_face fs f k is in (omega arith, b)

pub point_live : (ps : List Place) (v : ℕ) → v < length ps
    → is_some (slice_index_or (map Some ps) v None) ≡ true
point_live [] v l = absurd (omega arith)
point_live (p ∷ ps) zero l = refl
point_live (p ∷ ps) (suc v) l = point_live ps v (omega arith)

pub input-sound : (m : Mesh) → IsWellFormed m → IsSurface (surface_of m)
input-sound m formed f k is =
    grind (
      arith,
      common_steps,
      All-get_or (IsFace (length m.points)) m.faces f no_corners,
      point_live m.points k.a,
      point_live m.points k.b,
      point_live m.points k.c,
      some_face m.faces f k is,
    )
