-- How many planes there are along a run: brought ones as many as at first, and taken ones as few as
-- the policy takes.
use Rattle.std.proofs.Common.{◌≡◌, ℕ, zero, suc, ◌+◌, ◌*◌, ◌<◌, ◌≤◌, eqb, true, cond, List}
use Rattle.std.proofs.lemmas.Grind.{common_steps}
use Rattle.std.proofs.Common.{[], ◌∷◌, ◌++◌, length, Some, inl, inr, refl, ap, ◌∙◌, arith}
use Rattle.std.proofs.lemmas.Bool.{cases_Bool, cond-true, cond-false}
use Rattle.std.proofs.lemmas.List.{length-map, length-append}
use Rattle.std.proofs.Math.Nat.{mul-le-mul_left}
use Rattle.pm_base.specs.declared.log.Collapse.{Collapse}
use Rattle.pm_base.specs.Meshes.{Mesh}
use Rattle.pm_quadric.specs.Planes.{Plane}
use Rattle.pm_runs.specs.Surfaces.{Surface, next_vertex, is_live, surface_of}
use Rattle.pm_runs.specs.Planes.{planes_at}
use Rattle.pm_runs.specs.Runs.{IsStartOfRun, after_entry, surface_from, surface_after, AreSteps}
use Rattle.pm_runs.specs.Runs.{IsRun}
use Rattle.pm_runs.specs.Counts.{sum_below, plane_count_of}
use Rattle.pm_runs.proofs.Live.{input-sound, live_below}
use Rattle.pm_runs.proofs.PlaneCounts.{first_count, counts-kept, pair_few}
use Rattle.pm_policies.specs.Policies.{Policy, taken_next, taken_from, taken_after, brought_after}
use Rattle.pm_policies.specs.Policies.{planes_by, pair_planes_by}
use Rattle.pm_policies.specs.Bounds.{BringsAtMost, most_brought, TakesAtMost, TakesByFaces}
use Rattle.pm_policies.specs.Laws as law

sum_scaled :
    (f g : ℕ → ℕ) (k e n : ℕ) → ((i : ℕ) → f i ≤ k * g i + e) →
    sum_below f n ≤ k * sum_below g n + e * n
sum_scaled f g k e zero each = omega arith
sum_scaled f g k e (suc n) each =
    grind (arith, common_steps, sum_scaled f g k e n each)

-- One term is no more than all.
one_within : (f : ℕ → ℕ) (n t : ℕ) → t < n → f t ≤ sum_below f n
one_within f zero t l = absurd (omega arith)
one_within f (suc n) t l = grind (arith, common_steps, one_within f n t)

-- Brought planes.
module _ (p : Policy) (m : Mesh) where
  brought-first :
      (k e : ℕ) → BringsAtMost p m k e →
      plane_count_of (p.brought m) (surface_of m) ≤
      k * plane_count_of (planes_at m) (surface_of m) + e * next_vertex (surface_of m)
  brought-first k e few =
      let s = surface_of m in
      sum_scaled (λ v. cond (is_live s v) (length (p.brought m v)) 0)
      (λ v. cond (is_live s v) (length (planes_at m v)) 0) k e (next_vertex s) (λ v.
      elim (cases_Bool (is_live s v)) [
        | inl is ↦
            let one : cond (is_live s v) (length (p.brought m v)) 0 ≡ length (p.brought m v) =
            cond-true _ _ _ is in
            let two : cond (is_live s v) (length (planes_at m v)) 0 ≡ length (planes_at m v) =
            cond-true _ _ _ is in
            let both = ap (λ n. k * n) two in
            let each = few v in
            omega arith
        | inr is ↦
            let none : cond (is_live s v) (length (p.brought m v)) 0 ≡ 0 = cond-false _ _ _ is in
            omega arith
      ])

  brought-kept :
      IsStartOfRun m → (log : List Collapse) → IsRun m log →
      plane_count_of (brought_after p m log) (surface_after m log) ≡
      plane_count_of (p.brought m) (surface_of m)
  unfolding IsRun surface_after brought_after
  brought-kept start log run =
      counts-kept (surface_of m) (input-sound m start.formed) log run (p.brought m)

  brought-few :
      IsStartOfRun m → (log : List Collapse) → IsRun m log → (k e : ℕ) →
      BringsAtMost p m k e →
      plane_count_of (brought_after p m log) (surface_after m log) ≤ most_brought m k e
  brought-few start log run k e few =
      let same = brought-kept start log run in
      let first = brought-first k e few in
      let input = mul-le-mul_left k (first_count m) in
      let points = ap (λ (n : ℕ). e * n) (length-map m.points Some) in
      omega arith

-- Taken planes.
module _ (p : Policy) (n : ℕ) where
  taken-few :
      (s : Surface) (planes : ℕ → List Plane) (cs : List Collapse) → AreSteps s cs →
      ((ds : List Collapse) → AreSteps s ds → (v : ℕ) →
      length (p.taken (surface_from s ds) v) ≤ n) →
      ((v : ℕ) → length (planes v) ≤ n) → (v : ℕ) → length (taken_from p s planes cs v) ≤ n
  taken-few s planes [] steps takes had v = had v
  taken-few s planes (c ∷ cs) steps takes had v =
      taken-few (after_entry s c) (taken_next p s planes c) cs steps.1
      (λ ds later. takes (c ∷ ds) (steps.0, later)) (λ w.
      elim (cases_Bool (eqb w c.s)) [
        | inl is ↦
            let now = ap length (cond-true _ (p.taken (after_entry s c) w) (planes w) is) in
            let few = takes (c ∷ []) (steps.0, tt) w in
            omega (arith, now, few)
        | inr is ↦ grind (arith, common_steps, cond-false)
      ]) v

  taken-each :
      (m : Mesh) → TakesAtMost p m n → (log : List Collapse) → IsRun m log → (v : ℕ) →
      length (taken_after p m log v) ≤ n
  unfolding IsRun surface_after taken_after
  taken-each m takes log run =
      let s = surface_of m in taken-few s (p.taken s) log run takes (takes [] tt)

faces-same :
    (s : Surface) (cs : List Collapse) → length (surface_from s cs).faces ≡ length s.faces
faces-same s [] = refl
faces-same s (c ∷ cs) = faces-same (after_entry s c) cs ∙ length-map s.faces _

takes-by-faces :
    (p : Policy) (m : Mesh) (n : ℕ) → TakesByFaces p n → TakesAtMost p m (n * length m.faces)
unfolding surface_after
takes-by-faces p m n takes log run v = grind (arith, common_steps, faces-same, length-map)

vertex-few :
    (p : Policy) (m : Mesh) (log : List Collapse) (all each : ℕ) →
    plane_count_of (brought_after p m log) (surface_after m log) ≤ all →
    ((v : ℕ) → length (taken_after p m log v) ≤ each) → (v : ℕ) →
    is_live (surface_after m log) v ≡ true → length (planes_by p m log v) ≤ all + each
vertex-few p m log all each few takes v live =
    let s : Surface = surface_after m log in
    let t : List Plane = taken_after p m log v in
    let f : ℕ → ℕ = λ w. cond (is_live s w) (length (brought_after p m log w)) 0 in
    let brought : f v ≡ length (brought_after p m log v) = cond-true _ _ _ live in
    let within = one_within f (next_vertex s) v (live_below s v live) in
    let both = length-append t (brought_after p m log v) in
    let taken = takes v in
    omega arith

pair-few :
    (p : Policy) (m : Mesh) (log : List Collapse) (all each : ℕ) →
    plane_count_of (brought_after p m log) (surface_after m log) ≤ all →
    ((v : ℕ) → length (taken_after p m log v) ≤ each) → (a b : ℕ) → a < b →
    is_live (surface_after m log) a ≡ true → is_live (surface_after m log) b ≡ true →
    length (pair_planes_by p m log a b) ≤ all + 2 * each
pair-few p m log all each few takes a b order la lb =
    let t : ℕ → List Plane = taken_after p m log in
    let f : ℕ → List Plane = brought_after p m log in
    let brought = pair_few f (surface_after m log) a b la lb (λ is. absurd (omega arith)) in
    let ta = takes a in
    let tb = takes b in
    let one = length-append (t a) (f a) in
    let two = length-append (t b) (f b) in
    let both = length-append (t a ++ f a) (t b ++ f b) in
    omega arith

pub planes_are_few : law.PlanesAreFew
planes_are_few p m start = (
  λ log run. (
    brought-kept p m start log run,
    λ n more taken brings takes.
        let all = brought-few p m start log run n more brings in
        let each = taken-each p taken m takes log run in
        record {
          all = all;
          each = each;
          vertex = vertex-few p m log (most_brought m n more) taken all each;
          pair = pair-few p m log (most_brought m n more) taken all each;
        },
  ),
  λ n takes. takes-by-faces p m n takes,
)
