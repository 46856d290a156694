-- The strips of a front show its mesh.
use Rattle.std.proofs.Common.{◌≡◌, ℕ, zero, suc, ◌+◌, ◌*◌, ◌<◌, ltb, Bool, true, false, cond, List}
use Rattle.std.proofs.lemmas.Grind.{common_steps}
use Rattle.std.proofs.Common.{[], ◌∷◌, map, Option, Some, None, ◌⊎◌, refl, sym}
use Rattle.std.proofs.Common.{◌∙◌, subst, arith}
use Rattle.std.specs.List.{flat_map}
use Rattle.std.proofs.lemmas.Bool.{and_parts, and_from, ltb-true, lt-ltb}
use Rattle.std.proofs.lemmas.List.{map-append}
use Rattle.std.proofs.lemmas.Option.{none-some}
use Rattle.std.proofs.lemmas.List.Folds.{flat_map-map}
use Rattle.pm_base.specs.Sides.{face_of, next}
use Rattle.pm_base.proofs.Sides.{next_cases}
use Rattle.pm_forest.specs.Forest.{Hierarchy}
use Rattle.pm_forest.specs.Faces.{face_count}
use Rattle.pm_forest.specs.Kept.{is_kept}
use Rattle.pm_forest.proofs.Sides.{three_sides}
use Rattle.pm_beyond.specs.Walks.{Beyond, beyond_of}
use Rattle.pm_beyond.specs.Valid.{IsValid}
use Rattle.pm_beyond.specs.Moves.{IsClosed}
use Rattle.pm_beyond.proofs.Reaching.{kept_at_side, reaches-lt}
use Rattle.pm_beyond.proofs.Standing.{forest_of, closed-front}
use Rattle.pm_beyond.proofs.WalkTheory as walk
use Rattle.pm_strips.specs.Strips.{strips_from, listed_nodes, decoded}
use Rattle.pm_strips.specs.Strips.{corners_from, IsTurnOf}
use Rattle.pm_strips.specs.Shown.{is_there, beyond_in, node_of_corner, strips_of}
use Rattle.pm_strips.specs.Shown.{corners_shown, AreTurned}
use Rattle.pm_strips.specs.Laws.{CarriesEnds, FrontsCarryEnds, StripsShowTheMesh}
use Rattle.pm_strips.proofs.StripLaws.{strip_decoded}
use Rattle.pm_strips.proofs.TakenLaws.{all_taken, faces_once}

-- A face is there below the number of faces.
pub there-parts : (h : Hierarchy) (T : ℕ → Bool) (f : ℕ) → is_there h T f ≡ true
    → (f < face_count h) × (is_kept h T f ≡ true)
there-parts h T f is = let p = and_parts (ltb f (face_count h)) (is_kept h T f) is in
    (ltb-true f (face_count h) p.0, p.1)

pub there-from : (h : Hierarchy) (T : ℕ → Bool) (f : ℕ) → f < face_count h → is_kept h T f ≡ true
    → is_there h T f ≡ true
there-from h T f l is =
    and_from (ltb f (face_count h)) (is_kept h T f) (lt-ltb f (face_count h) l) is

inside : (b : Bool) (o : Option ℕ) (g : ℕ) → cond b o None ≡ Some g → (b ≡ true) × (o ≡ Some g)
inside true o g e = (refl, e)
inside false o g e = absurd (none-some g e)

module _ (h : Hierarchy) (valid : IsValid h) (T : ℕ → Bool) (closed : IsClosed h T) (e g : ℕ)
    (some : beyond_in h T e ≡ Some g) where
  low : e < 3 * face_count h
  low = grind (arith, common_steps, inside, there-parts)

  -- The walk from the side comes to that one.
  stands : Beyond h T e (Some g)
  stands =
      let p = inside (is_there h T (face_of e)) (beyond_of h T e) g some in
      let there = there-parts h T (face_of e) p.0 in
      let tree = forest_of h valid in
      let front = closed-front h T closed in
      subst (Beyond h T e) p.1
      (walk.one_beyond h tree valid.no_side_twice T front e low
      (sym (kept_at_side h tree T front e low) ∙ there.1)).0

  -- The face that stands beyond is there.
  pub there_beyond : is_there h T (face_of g) ≡ true
  there_beyond =
      let tree = forest_of h valid in
      let below = reaches-lt h tree valid.no_side_twice T g stands.reaches refl in
      let kept = kept_at_side h tree T (closed-front h T closed) g below ∙ stands.stops in
      there-from h T (face_of g) (omega (arith, below)) kept

pub fronts_carry : FrontsCarryEnds
fronts_carry h valid T closed e g some =
    walk.ends h (forest_of h valid) T e g (stands h valid T closed e g some).reaches

all_decoded : (beyond : ℕ → Option ℕ) (node : ℕ → ℕ) → CarriesEnds beyond node
    → (n m : ℕ) (free : ℕ → Bool) (f : ℕ)
    → flat_map (λ s. decoded false (listed_nodes node s)) (strips_from beyond n m free f)
    ≡ map (corners_from node) (flat_map (λ s. s) (strips_from beyond n m free f))
all_decoded beyond node ends n zero free f = refl
all_decoded beyond node ends n (suc m) free f =
    grind (
      arith,
      common_steps,
      map-append,
      strip_decoded,
      all_decoded beyond node ends n m,
      all_decoded beyond node ends n m free (suc f),
    )

-- The corners of a side's face, from where the side begins, are those of the face up to a turn.
turned_from : (node : ℕ → ℕ) (f e : ℕ)
    → (e ≡ 3 * f) ⊎ ((e ≡ next (3 * f)) ⊎ (e ≡ next (next (3 * f))))
    → IsTurnOf (corners_from node e) (record {
      a = node (3 * f);
      b = node (3 * f + 1);
      c = node (3 * f + 2);
    })
turned_from node f e which =
    grind (arith, common_steps, next_cases (3 * f), next_cases (3 * f + 1), next_cases (3 * f + 2))

corners_turned : (h : Hierarchy) (T : ℕ → Bool) (e : ℕ)
    → IsTurnOf (corners_from (node_of_corner h T) e) (corners_shown h T (face_of e))
corners_turned h T e =
    turned_from (node_of_corner h T) (face_of e) e (three_sides e (3 * face_of e) (omega arith))

all_turned : (h : Hierarchy) (T : ℕ → Bool) (gs : List ℕ)
    → AreTurned (corners_shown h T) (map face_of gs) (map (corners_from (node_of_corner h T)) gs)
all_turned h T [] = tt
all_turned h T (g ∷ gs) = (corners_turned h T g, all_turned h T gs)

pub strips_show : StripsShowTheMesh
unfolding strips_of
strips_show h valid T closed =
    grind (
      arith,
      common_steps,
      all_decoded (beyond_in h T) (node_of_corner h T) (fronts_carry h valid T closed)
          (face_count h) (face_count h) (is_there h T) 0,
      all_taken (beyond_in h T) (face_count h) (face_count h) (is_there h T) 0,
      all_turned h T,
      faces_once (is_there h T),
      flat_map-map (decoded false) (listed_nodes (node_of_corner h T)),
      fronts_carry h valid T closed,
      there-from h T,
      there-parts h T,
    )
