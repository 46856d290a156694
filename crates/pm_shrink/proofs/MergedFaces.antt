-- The faces after a collapse.
use Rattle.std.proofs.Common.{◌≡◌, ℕ, ◌+◌, ◌*◌, ◌%◌, ◌<◌, Bool, true, eqb, cond, List}
use Rattle.std.proofs.Common.{length, get_or, set, Option, Some, None, ◌⊎◌, inl, inr, refl, sym, ap}
use Rattle.std.proofs.Common.{◌∙◌, subst, arith, get_or-set_other, get_or-set_same}
use Rattle.std.specs.Prelude.{option_map}
use Rattle.std.proofs.lemmas.Grind.{common_steps}
use Rattle.std.proofs.lemmas.List.{length-set, length-map, get_or_past, ext_get_or}
use Rattle.std.proofs.lemmas.Bool.{cases_eq, cases_lt, eq-eqb, ne_eqb}
use Rattle.pm_base.specs.Place.{Place}
use Rattle.pm_base.specs.declared.log.Gone.{Gone}
use Rattle.pm_base.specs.declared.mesh.Corners.{Corners}
use Rattle.pm_base.specs.Sides.{Net, face_of, corner_in, Stands}
use Rattle.pm_base.proofs.Search.{option_cases}
use Rattle.pm_links.specs.Lists.{Lists, list_of, has}
use Rattle.pm_runs.specs.Surfaces.{Surface, next_vertex, net_of_surface, corners_at, IsSurface}
use Rattle.pm_runs.specs.Surfaces.{IsLiveFace, collapsed, merge, merged_corners}
use Rattle.pm_runs.specs.Pairs.{Runs, Links}
use Rattle.pm_runs.specs.Steps.{side_from_to, gone_at, gone_of}
use Rattle.pm_runs.proofs.CornerNets.{AreDistinct, distinct_stands}
use Rattle.pm_runs.proofs.Collapsed.{corners_in, next_face}
use Rattle.pm_runs.proofs.FacesLeft.{face_gone, face_left, some_within}
use Rattle.pm_runs.proofs.Found.{found-runs}
use Rattle.pm_runs.proofs.Present.{option_is}
use Rattle.pm_shrink.specs.Writes.{with_corners, without_face}
use Rattle.pm_shrink.proofs.GoneLaws.{IsSparedBy, spared-links, stands_beside}
use Rattle.pm_shrink.proofs.MergedCorners.{AreDropped, mid_each}
use Rattle.pm_shrink.proofs.WriteLaws.{renamed, corners_same, cond_twice, length-with_corners}
use Rattle.pm_shrink.proofs.WriteLaws.{read_corners}

pub length-without_face : (faces : List (Option Corners)) (o : Option Gone)
    → length (without_face faces o) ≡ length faces
length-without_face faces None = refl
length-without_face faces (Some g) = length-set faces g.face.0 None

set_none : (faces : List (Option Corners)) (f : ℕ) → get_or (set faces f None) f None ≡ None
set_none faces f =
    grind (
      arith,
      common_steps,
      cases_lt f (length faces),
      get_or-set_same,
      get_or_past,
      length-set,
    )

without-same : (faces : List (Option Corners)) (o : Option Gone) (g : Gone) (f : ℕ) → o ≡ Some g
    → g.face.0 ≡ f → get_or (without_face faces o) f None ≡ None
without-same faces o g f is at = grind (arith, common_steps, set_none)

without-spared : (faces : List (Option Corners)) (o : Option Gone) (f : ℕ) → IsSparedBy o f
    → get_or (without_face faces o) f None ≡ get_or faces f None
without-spared faces None f spared = refl
without-spared faces (Some g) f spared = get_or-set_other faces g.face.0 f None None spared

without-none : (faces : List (Option Corners)) (o : Option Gone) (f : ℕ)
    → get_or faces f None ≡ None → get_or (without_face faces o) f None ≡ None
without-none faces None f none = none
without-none faces (Some g) f none =
    grind (arith, common_steps, cases_eq f g.face.0, set_none, get_or-set_other)

-- A face is spared, or is the one that goes.
spared? : (m : Net) (p q f : ℕ) → IsSparedBy (gone_of m p q) f
    ⊎ ((e : ℕ) × Runs m e p q × (face_of e ≡ f) × (gone_of m p q ≡ Some (gone_at m e)))
spared? m p q f =
    elim (option_cases (side_from_to m p q)) [
      | inl none ↦ grind (arith, common_steps)
      | inr (e, is) ↦ grind (arith, common_steps, cases_eq f (face_of e), found-runs m p q e is)
    ]

test_same : (x : Bool) (u v : ℕ) → (x ≡ true → u ≡ v) → (u ≡ v → x ≡ true) → x ≡ eqb u v
test_same x u v to back = grind (arith, common_steps, cases_eq u v, eq-eqb, ne_eqb)

named_twice : (x y : Bool) (a b s v : ℕ) → x ≡ eqb v a → y ≡ eqb v b
    → cond y s (cond x s v) ≡ merge a b s v
unfolding merge
named_twice x y a b s v p q = rw (p, q) (cond_twice (eqb v b) (eqb v a) s v)

module _ (s : Surface) (a b : ℕ) (place : Place) (sound : IsSurface s) {before mid : Lists}
    (w : AreDropped (net_of_surface s) (net_of_surface (collapsed s a b place)) a b (next_vertex s)
    before mid) where
  abbrev m : Net
  m = net_of_surface s

  abbrev n : Net
  n = net_of_surface (collapsed s a b place)

  abbrev dropped : List (Option Corners)
  dropped = without_face (without_face s.faces (gone_of (net_of_surface s) a b))
      (gone_of (net_of_surface s) b a)

  abbrev pub merged_faces : List (Option Corners)
  merged_faces =
      with_corners
      (with_corners
      (without_face (without_face s.faces (gone_of (net_of_surface s) a b))
      (gone_of (net_of_surface s) b a)) (list_of mid a) (next_vertex s)) (list_of mid b)
      (next_vertex s)

  length-dropped : length dropped ≡ length s.faces
  length-dropped = length-without_face (without_face s.faces (gone_of m a b)) (gone_of m b a)
      ∙ length-without_face s.faces (gone_of m a b)

  low : (v e : ℕ) → has (list_of mid v) e ≡ true → face_of e < length s.faces
  low v e h = (let l =
      (w.drops.stood e ((mid_each w v e).0 h).0).is_side in
      omega arith)

  read : (f : ℕ)
      → get_or merged_faces f None ≡ option_map (renamed (list_of mid b) (next_vertex s) f)
      (option_map (renamed (list_of mid a) (next_vertex s) f) (get_or dropped f None))
  read f =
      let one = with_corners dropped (list_of mid a) (next_vertex s) in
      let one_len : length one ≡ length dropped =
      length-with_corners dropped (list_of mid a) (next_vertex s) in
      read_corners (list_of mid b) one (next_vertex s) f
      (λ e h. (let l = low b e h in omega (arith, one_len, length-dropped)))
      ∙ ap (option_map (renamed (list_of mid b) (next_vertex s) f))
      (read_corners (list_of mid a) dropped (next_vertex s) f
      (λ e h. (let l = low a e h in omega (arith, length-dropped))))

  -- A face that goes.
  gone_same : (f e : ℕ) → Links m e a b → face_of e ≡ f → get_or dropped f None ≡ None
      → get_or merged_faces f None ≡ get_or (collapsed s a b place).faces f None
  gone_same f e links at none =
      read f ∙ ap (λ o. option_map (renamed (list_of mid b) (next_vertex s) f)
      (option_map (renamed (list_of mid a) (next_vertex s) f) o)) none
      ∙ sym (face_gone s a b place sound e f links at)

  -- A corner of a face that stays.
  named : (e v : ℕ) → Stands n e → m.from e ≡ v
      → cond (has (list_of mid b) e) (next_vertex s)
      (cond (has (list_of mid a) e) (next_vertex s) v) ≡ merge a b (next_vertex s) v
  named e v st at =
      let each = mid_each w in
      named_twice (has (list_of mid a) e) (has (list_of mid b) e) a b (next_vertex s) v
      (test_same (has (list_of mid a) e) v a (λ t. sym at ∙ ((each a e).0 t).1)
      (λ is. (each a e).1 (st, at ∙ is)))
      (test_same (has (list_of mid b) e) v b (λ t. sym at ∙ ((each b e).0 t).1)
      (λ is. (each b e).1 (st, at ∙ is)))

  stay_same : (f : ℕ) → IsSparedBy (gone_of m a b) f → IsSparedBy (gone_of m b a) f
      → get_or merged_faces f None ≡ get_or (collapsed s a b place).faces f None
  stay_same f left right =
      let never = spared-links m w.once a b f left right in
      let same : get_or dropped f None ≡ get_or s.faces f None =
      without-spared (without_face s.faces (gone_of m a b)) (gone_of m b a) f right
      ∙ without-spared s.faces (gone_of m a b) f left in
      let end = face_left s a b place sound f never in
      elim (option_is (get_or s.faces f None)) [
        | inl none ↦ read f
            ∙ ap (λ o. option_map (renamed (list_of mid b) (next_vertex s) f)
            (option_map (renamed (list_of mid a) (next_vertex s) f) o)) (same ∙ none)
            ∙ sym (end ∙ ap (option_map (merged_corners a b (next_vertex s))) none)
        | inr (k, there) ↦
            let live : IsLiveFace s k = sound f k there in
            let l = some_within s.faces f k there in
            let at : (e : ℕ) → face_of e ≡ f → corners_at s (face_of e) ≡ k =
            λ e is. ap (corners_at s) is ∙ ap corners_in there in
            let st : Stands m (3 * f) =
            distinct_stands (length s.faces) (corners_at s) (3 * f) (omega arith)
            (subst AreDistinct (sym (at (3 * f) (omega arith)))
            (record { ab = live.ab; bc = live.bc; ca = live.ca })) in
            let new : Stands n (3 * f) =
            w.drops.stays (3 * f) st
            (λ x links is. never x links (is ∙ (let first : face_of (3 * f) ≡ f = omega arith in
            first))) in
            let from : (e i : ℕ) → face_of e ≡ f → e % 3 ≡ i → m.from e ≡ corner_in k i =
            λ e i is which. ap (λ (c : Corners). corner_in c (e % 3)) (at e is)
            ∙ ap (corner_in k) which in
            read f ∙ ap (λ o. option_map (renamed (list_of mid b) (next_vertex s) f)
            (option_map (renamed (list_of mid a) (next_vertex s) f) o)) (same ∙ there)
            ∙ ap Some (corners_same
            (renamed (list_of mid b) (next_vertex s) f
            (renamed (list_of mid a) (next_vertex s) f k))
            (merged_corners a b (next_vertex s) k)
            (named (3 * f) k.a new (from (3 * f) 0 (omega arith) (omega arith)))
            (named (3 * f + 1) k.b (stands_beside n (3 * f) (3 * f + 1) new (omega arith))
            (from (3 * f + 1) 1 (omega arith) (omega arith)))
            (named (3 * f + 2) k.c (stands_beside n (3 * f) (3 * f + 2) new (omega arith))
            (from (3 * f + 2) 2 (omega arith) (omega arith))))
            ∙ sym (end ∙ ap (option_map (merged_corners a b (next_vertex s))) there)
      ]

  each_same : (f : ℕ) → get_or merged_faces f None ≡ get_or (collapsed s a b place).faces f None
  each_same f =
      elim (spared? m a b f) [
        | inr (e, r, at, is) ↦
            gone_same f e (inl r) at
            (without-none (without_face s.faces (gone_of m a b)) (gone_of m b a) f
            (without-same s.faces (gone_of m a b) (gone_at m e) f is at))
        | inl left ↦
            elim (spared? m b a f) [
              | inr (e, r, at, is) ↦
                  gone_same f e (inr r) at
                  (without-same (without_face s.faces (gone_of m a b)) (gone_of m b a) (gone_at m e)
                  f is at)
              | inl right ↦ stay_same f left right
            ]
      ]

  -- The faces are those of the collapsed surface.
  pub faces-merged : merged_faces ≡ (collapsed s a b place).faces
  faces-merged =
      let one = with_corners dropped (list_of mid a) (next_vertex s) in
      let len = length-with_corners one (list_of mid b) (next_vertex s)
      ∙ length-with_corners dropped (list_of mid a) (next_vertex s) ∙ length-dropped
      ∙ sym (length-map s.faces (next_face a b (next_vertex s))) in
      ext_get_or None merged_faces (collapsed s a b place).faces len (λ f l. each_same f)
