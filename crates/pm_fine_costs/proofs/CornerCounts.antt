-- How many planes there are round a vertex: three for each of its faces at most.
use Rattle.std.proofs.Common.{◌≡◌, ℕ, zero, suc, ◌+◌, ◌*◌, ◌%◌, ◌≤◌, Bool, true}
use Rattle.std.proofs.lemmas.Grind.{common_steps}
use Rattle.std.proofs.Common.{cond, eqb, ◌&&◌, List, [], ◌∷◌}
use Rattle.std.proofs.Common.{length, length-append, take, get_or, Some, inl}
use Rattle.std.proofs.Common.{inr, refl, sym, ap, ◌∙◌, arith}
use Rattle.std.specs.List.{filter, range_with_len}
use Rattle.std.proofs.Math.Seq.{take-length}
use Rattle.std.proofs.lemmas.Bool.{cases_Bool, cond-true, cond-false, and_parts, eqb-true, eq-eqb}
use Rattle.std.proofs.lemmas.Bool.{or_left, or_right}
use Rattle.std.proofs.lemmas.List.{length-map}
use Rattle.std.proofs.lemmas.List.Elements.{filter-append}
use Rattle.std.proofs.lemmas.List.Filters.{length-filter_more}
use Rattle.pm_base.specs.Counts.{count}
use Rattle.pm_base.proofs.Counts.{count-zero, count-true, count-false, count_le}
use Rattle.pm_base.proofs.Numbers.{numbers_next}
use Rattle.pm_base.proofs.Sides.{face_cases}
use Rattle.pm_base.proofs.TwinLaws.{stands-true}
use Rattle.pm_base.specs.declared.mesh.Corners.{Corners}
use Rattle.pm_base.specs.Geometry.{Direction}
use Rattle.pm_base.specs.Meshes.{Mesh}
use Rattle.pm_base.specs.Sides.{Net, Stands, stands, face_of, corner_in}
use Rattle.pm_base.specs.Sides.{no_corners}
use Rattle.pm_runs.specs.Planes.{planes_at, plane_of_face, has_corner}
use Rattle.pm_runs.specs.Surfaces.{Surface, surface_of, net_of_surface}
use Rattle.pm_shrink.proofs.AllFaces.{net_there}
use Rattle.pm_fine_costs.specs.Corners.{corners_round}
use Rattle.pm_fine_costs.specs.FinePolicy.{corner_planes, planes_round}
use Rattle.pm_fine_costs.proofs.TakenLaws.{corner_few, all_few}

filter_counted : (p : ℕ → Bool) (n : ℕ) → length (filter p (range_with_len 0 n)) ≡ count p n
filter_counted p zero = sym (count-zero p)
filter_counted p (suc n) =
    grind (
      arith,
      common_steps,
      count-false p n,
      count-true p n,
      filter-append p (range_with_len 0 n) (n ∷ []),
      length-append (filter p (range_with_len 0 n)) (filter p (n ∷ [])),
      numbers_next n,
      filter_counted p n,
    )

-- Of the three sides of a face one passes at most, and then the face does.
module _ (p q : ℕ → Bool) (face : (e : ℕ) → p e ≡ true → q (face_of e) ≡ true)
    (one : (e g : ℕ) → face_of e ≡ face_of g → p e ≡ true → p g ≡ true → e ≡ g) where
  pub faces_counted : (n : ℕ) → count p (3 * n) ≤ count q n
  faces_counted zero = omega (arith, count-zero p, count-zero q)
  faces_counted (suc n) =
      let a : ℕ = 3 * n in
      let rest = faces_counted n in
      let three : 3 * suc n ≡ suc (suc (suc a)) = omega arith in
      let all = ap (count p) three in
      let fa : face_of a ≡ n = omega arith in
      let fb : face_of (suc a) ≡ n = omega arith in
      let fc : face_of (suc (suc a)) ≡ n = omega arith in
      let here : (e : ℕ) → face_of e ≡ n → p e ≡ true → q n ≡ true =
      λ e f t. sym (ap q f) ∙ face e t in
      let ab : p a ≡ true → p (suc a) ≡ true → ⊥ =
      λ x y. absurd (let k = one a (suc a) (fa ∙ sym fb) x y in omega arith) in
      let ac : p a ≡ true → p (suc (suc a)) ≡ true → ⊥ =
      λ x y. absurd (let k = one a (suc (suc a)) (fa ∙ sym fc) x y in omega arith) in
      let bc : p (suc a) ≡ true → p (suc (suc a)) ≡ true → ⊥ =
      λ x y. absurd (let k = one (suc a) (suc (suc a)) (fb ∙ sym fc) x y in omega arith) in
      elim (cases_Bool (p a)) [
        | inl ta ↦ grind (arith, common_steps, count-false, count-true)
        | inr ta ↦ grind (arith, common_steps, count-false, count-true)
      ]

module _ (s : Surface) (v : ℕ) where
  abbrev m : Net
  m = net_of_surface s

  abbrev is_round : ℕ → Bool
  is_round e = stands m e && eqb (m.from e) v

  -- Of the corners of a face one is at the vertex, at most.
  one_corner : (e g : ℕ) → face_of e ≡ face_of g → is_round e ≡ true → is_round g ≡ true → e ≡ g
  one_corner e g f x y =
      let px = and_parts (stands m e) (eqb (m.from e) v) x in
      let py = and_parts (stands m g) (eqb (m.from g) v) y in
      let st : Stands m e = stands-true m e px.0 in
      let at_e : m.from e ≡ v = eqb-true (m.from e) v px.1 in
      let at_g : m.from g ≡ v = eqb-true (m.from g) v py.1 in
      elim (face_cases e g f) [
        | inl is ↦ sym is
        | inr more ↦ grind (arith, common_steps)
      ]

  pub round_counted :
      (q : ℕ → Bool) → ((e : ℕ) → is_round e ≡ true → q (face_of e) ≡ true) →
      length (corners_round s v) ≤ count q (length s.faces)
  round_counted q face = grind (arith, common_steps, faces_counted, filter_counted, one_corner)

  -- Three planes a face at most.
  pub round_few : (w : Direction → Direction) → length (planes_round w s v) ≤ 3 * length s.faces
  unfolding planes_round
  round_few w =
      let corners = round_counted (λ f. true) (λ e t. refl) in
      omega (
        arith,
        all_few (corner_planes w s v) (corner_few w s v) (corners_round s v),
        corners,
        count_le (λ f. true) (length s.faces),
      )

-- The faces of a list that pass a test.
filter_taken :
    (p : Corners → Bool) (fs : List Corners) (n : ℕ) → n ≤ length fs →
    length (filter p (take n fs)) ≡ count (λ f. p (get_or fs f no_corners)) n
filter_taken p fs zero l = sym (count-zero (λ f. p (get_or fs f no_corners)))
filter_taken p fs (suc n) l =
    let q : ℕ → Bool = λ f. p (get_or fs f no_corners) in
    let before = filter_taken p fs n (omega arith) in
    let k : suc n ≡ n + 1 = omega arith in
    let more : length (filter p (take (suc n) fs)) ≡
    length (filter p (take n fs)) + cond (p (get_or fs n no_corners)) 1 0 =
    ap (λ (i : ℕ). length (filter p (take i fs))) k
    ∙ length-filter_more p fs n no_corners (omega arith) in
    elim (cases_Bool (q n)) [
      | inl t ↦ (let c : ◌≡◌ {A = ℕ} (cond (p (get_or fs n no_corners)) 1 0) 1 = cond-true _ _ _
          t in omega (arith, c, before, more, count-true q n t))
      | inr t ↦ (let c : ◌≡◌ {A = ℕ} (cond (p (get_or fs n no_corners)) 1 0) 0 = cond-false _ _
          _ t in omega (arith, c, before, more, count-false q n t))
    ]

corner_has : (k : Corners) (i v : ℕ) → corner_in k i ≡ v → has_corner v k ≡ true
corner_has k i v is = grind (arith, common_steps, cond-false, cond-true, eq-eqb, or_left, or_right)

-- An input vertex has three for each of its faces.
pub input_few :
    (w : Direction → Direction) (mesh : Mesh) (v : ℕ) →
    length (planes_round w (surface_of mesh) v) ≤ 3 * length (planes_at mesh v)
unfolding planes_round planes_at
input_few w mesh v =
    let s = surface_of mesh in
    let fs : List Corners = mesh.faces in
    let q : ℕ → Bool = λ f. has_corner v (get_or fs f no_corners) in
    let there : (e : ℕ) → (net_of_surface s).from e ≡ corner_in
    (get_or fs (face_of e) no_corners) (e % 3) =
    λ e. ap (λ (n : Net). n.from e) (net_there mesh) in
    let face : (e : ℕ) → (stands (net_of_surface s) e && eqb ((net_of_surface s).from e) v) ≡ true →
    q (face_of e) ≡ true = λ e t.
    corner_has (get_or fs (face_of e) no_corners) (e % 3) v
    (sym (there e) ∙ eqb-true ((net_of_surface s).from e) v
    (and_parts (stands (net_of_surface s) e) (eqb ((net_of_surface s).from e) v) t).1) in
    let corners = round_counted s v q face in
    let all = filter_taken (has_corner v) fs (length fs) (omega arith) in
    let whole : take (length fs) fs ≡ fs = take-length fs in
    let same = ap (λ (l : List Corners). length (filter (has_corner v) l)) whole in
    let sides = length-map fs Some in
    let here = ap (count q) sides in
    let planes = length-map (filter (has_corner v) fs) (plane_of_face mesh) in
    let few = all_few (corner_planes w s v) (corner_few w s v) (corners_round s v) in
    omega arith
