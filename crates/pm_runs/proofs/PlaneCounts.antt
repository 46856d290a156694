-- The planes of all live vertices together are as many as at first: three a face at most.
use Rattle.std.proofs.Common.{◌≡◌, ◌≢◌, ℕ, zero, suc, ◌+◌, ◌*◌, ◌≤◌, eqb, Bool, true, false, cond}
use Rattle.std.proofs.lemmas.Grind.{common_steps}
use Rattle.std.proofs.Common.{◌||◌, List, [], ◌∷◌, length, refl, ap, ◌∙◌, arith}
use Rattle.std.specs.List.{filter}
use Rattle.std.proofs.lemmas.Bool.{cond-true, cond-false, eq-eqb, ne_eqb}
use Rattle.std.proofs.lemmas.List.{length-map, length-append}
use Rattle.pm_base.specs.declared.mesh.Corners.{Corners}
use Rattle.pm_base.specs.declared.log.Collapse.{Collapse}
use Rattle.pm_base.specs.Counts.{one_if}
use Rattle.pm_base.specs.Meshes.{Mesh}
use Rattle.pm_quadric.specs.Planes.{Plane}
use Rattle.pm_runs.specs.Surfaces.{Surface, next_vertex, is_live, surface_of, IsSurface}
use Rattle.pm_runs.specs.Planes.{plane_of_face, has_corner, planes_at, joined_planes, planes_from}
use Rattle.pm_runs.specs.Planes.{planes_after}
use Rattle.pm_runs.specs.Runs.{IsStartOfRun, after_entry, surface_from, surface_after, IsStep}
use Rattle.pm_runs.specs.Runs.{AreSteps, IsRun}
use Rattle.pm_runs.specs.Counts.{sum_below, plane_count_of}
use Rattle.pm_runs.proofs.Live.{live_below, new_live, old_live, next-after, collapse-sound}
use Rattle.pm_runs.proofs.Live.{input-sound}
use Rattle.pm_runs.proofs.Logs.{step-new}
use Rattle.pm_runs.proofs.Living.{joined_live, first_dead, second_dead}
use Rattle.pm_runs.proofs.Totals.{sum_same, sum_add, sum_le, sum_two, two_within, sum_met}

-- At first.
length-filter : {X : Type 0} (test : X → Bool) (x : X) (xs : List X)
    → length (filter test (x ∷ xs)) ≡ one_if (test x) + length (filter test xs)
length-filter test x xs = grind (arith, common_steps, cond-false, cond-true)

or_le : (a b : Bool) → one_if (a || b) ≤ one_if a + one_if b
or_le true b = omega arith
or_le false b = omega arith

corner_few : (k : Corners) (n : ℕ) → sum_below (λ v. one_if (has_corner v k)) n ≤ 3
corner_few k n =
    let a = sum_met k.a n in
    let b = sum_met k.b n in
    let c = sum_met k.c n in
    let all = sum_le (λ v. one_if (has_corner v k))
    (λ v. one_if (eqb k.a v) + (one_if (eqb k.b v) + one_if (eqb k.c v))) n (λ v l.
    let x = or_le (eqb k.a v) (eqb k.b v || eqb k.c v) in
    let y = or_le (eqb k.b v) (eqb k.c v) in
    omega arith) in
    let one = sum_add (λ v. one_if (eqb k.a v)) (λ v. one_if (eqb k.b v) + one_if (eqb k.c v)) n in
    let two = sum_add (λ v. one_if (eqb k.b v)) (λ v. one_if (eqb k.c v)) n in
    omega arith

corners_few : (fs : List Corners) (n : ℕ)
    → sum_below (λ v. length (filter (has_corner v) fs)) n ≤ 3 * length fs
corners_few [] zero = omega arith
corners_few [] (suc n) = let rest = corners_few [] n in omega arith
corners_few (k ∷ fs) n =
    let each = sum_same (λ v. one_if (has_corner v k) + length (filter (has_corner v) fs))
    (λ v. length (filter (has_corner v) (k ∷ fs))) n
    (λ v l. length-filter (has_corner v) k fs) in
    let both = sum_add (λ v. one_if (has_corner v k)) (λ v. length (filter (has_corner v) fs)) n in
    let one = corner_few k n in
    let rest = corners_few fs n in
    omega arith

plane_count_at : (m : Mesh) (v : ℕ)
    → length (planes_at m v) ≡ length (filter (has_corner v) m.faces)
unfolding planes_at
plane_count_at m v = length-map (filter (has_corner v) m.faces) (plane_of_face m)

pub share-most : (b : Bool) (n : ℕ) → cond b n 0 ≤ n
share-most true n = omega arith
share-most false n = omega arith

pub first_count : (m : Mesh) → plane_count_of (planes_at m) (surface_of m) ≤ 3 * length m.faces
first_count m =
    let all = corners_few m.faces (next_vertex (surface_of m)) in
    let each = sum_le (λ v. cond (is_live (surface_of m) v) (length (planes_at m v)) 0)
    (λ v. length (filter (has_corner v) m.faces)) (next_vertex (surface_of m)) (λ v l.
    let e = plane_count_at m v in
    let p = share-most (is_live (surface_of m) v) (length (planes_at m v)) in
    omega arith) in
    omega arith

-- One step keeps the number.
module _ (s : Surface) (sound : IsSurface s) (c : Collapse) (step : IsStep s c) (planes : ℕ
    → List Plane) where
  abbrev counted : (ℕ → List Plane) → Surface → ℕ → ℕ
  counted f r v = cond (is_live r v) (length (f v)) 0

  abbrev now : ℕ → List Plane
  now = joined_planes planes c

  at_new : counted now (after_entry s c) (next_vertex s) ≡ length (planes c.t) + length (planes c.u)
  at_new = grind (arith, common_steps, cond-true, eq-eqb, length-append, new_live, step-new)

  at_other : (v : ℕ) → v ≢ next_vertex s → v ≢ c.t → v ≢ c.u
      → counted now (after_entry s c) v ≡ counted planes s v
  at_other v n_s n_t n_u = grind (arith, common_steps, cond-false, ne_eqb, old_live, step-new)

  pub count-kept : plane_count_of (joined_planes planes c) (after_entry s c)
      ≡ plane_count_of planes s
  count-kept =
      let (live_t, live_u) = joined_live s sound c.t c.u step.legal.joined in
      let low_t = live_below s c.t live_t in
      let low_u = live_below s c.u live_u in
      let apart = step.ordered in
      let f : ℕ → ℕ = counted planes s in
      let g : ℕ → ℕ = counted now (after_entry s c) in
      let rest = sum_two f g (next_vertex s) c.t c.u low_t low_u (λ is. absurd (omega arith))
      (cond-false _ _ _ (first_dead s sound c step)) (cond-false _ _ _ (second_dead s sound c step))
      (λ i l a b. at_other i (λ is. absurd (omega arith)) a b) in
      let top : g (next_vertex s) ≡ length (planes c.t) + length (planes c.u) = at_new in
      let of_t : f c.t ≡ length (planes c.t) = cond-true _ _ _ live_t in
      let of_u : f c.u ≡ length (planes c.u) = cond-true _ _ _ live_u in
      let number : next_vertex (after_entry s c) ≡ suc (next_vertex s) =
      (let e = next-after s c.t c.u c.place in omega arith) in
      let all : sum_below g (next_vertex (after_entry s c)) ≡ sum_below g (suc (next_vertex s)) =
      ap (sum_below g) number in
      omega arith

pub counts-kept : (s : Surface) → IsSurface s → (cs : List Collapse) → AreSteps s cs
    → (planes : ℕ → List Plane) → plane_count_of (planes_from planes cs) (surface_from s cs)
    ≡ plane_count_of planes s
counts-kept s sound [] steps planes = refl
counts-kept s sound (c ∷ cs) steps planes =
    counts-kept (after_entry s c) (collapse-sound s sound c.t c.u c.place) cs steps.1
    (joined_planes planes c) ∙ count-kept s sound c steps.0 planes

pub run-count : (m : Mesh) → IsStartOfRun m → (log : List Collapse) → IsRun m log
    → plane_count_of (planes_after m log) (surface_after m log)
    ≡ plane_count_of (planes_at m) (surface_of m)
unfolding IsRun surface_after planes_after
run-count m start log run =
    counts-kept (surface_of m) (input-sound m start.formed) log run (planes_at m)

-- The planes of two live vertices are among them.
pub pair_few : (planes : ℕ → List Plane) (s : Surface) (a b : ℕ) → is_live s a ≡ true
    → is_live s b ≡ true → a ≢ b → length (planes a) + length (planes b) ≤ plane_count_of planes s
pair_few planes s a b la lb n =
    let f : ℕ → ℕ = λ v. cond (is_live s v) (length (planes v)) 0 in
    let both = two_within f (next_vertex s) a b (live_below s a la) (live_below s b lb) n in
    let of_a : f a ≡ length (planes a) = cond-true _ _ _ la in
    let of_b : f b ≡ length (planes b) = cond-true _ _ _ lb in
    omega arith
