-- What the nodes of a front have together.
use Rattle.std.proofs.Common.{◌≡◌, ℕ, zero, suc, ◌+◌, ◌*◌, ◌<◌, Bool, true, false, ◌&&◌}
use Rattle.std.proofs.Common.{List, inl, inr, refl, sym, ap, ◌∙◌, arith}
use Rattle.std.proofs.lemmas.Grind.{common_steps}
use Rattle.std.proofs.Math.Nat.{mul-suc}
use Rattle.std.proofs.lemmas.Bool.{and_from, and_parts, eq-eqb, false≢true}
use Rattle.pm_base.specs.Counts.{count}
use Rattle.pm_base.specs.Sides.{face_of}
use Rattle.pm_base.proofs.Counts.{count-true, count-false, count-zero}
use Rattle.pm_base.proofs.Counted.{count_one}
use Rattle.pm_forest.specs.Forest.{Hierarchy, node_count, leaf_count, holds}
use Rattle.pm_forest.specs.Fronts.{IsFront, every, is_active, ancestor_of}
use Rattle.pm_forest.specs.Faces.{face_count, from_leaf}
use Rattle.pm_forest.specs.Rules.{HasShape}
use Rattle.pm_forest.proofs.Active.{is_active-true, is_active-from}
use Rattle.pm_forest.proofs.Ancestors.{active-ancestor, holds-ancestor_of, ancestor_of-unique}
use Rattle.pm_forest.proofs.Ancestors.{ancestor-lt}
use Rattle.pm_forest.proofs.ShapeLaws.{shape_of_nodes, shape_of_faces}
use Rattle.pm_paint.specs.Means.{sum_over, value_of, total_before, sum_under}
use Rattle.pm_paint.specs.Laws.{corners_under}
use Rattle.pm_paint.proofs.SumLaws.{sum-zero, sum-true, sum-false, sum-every, cases_of}

sum_times_zero : (f c : ℕ → ℕ) (m : ℕ) → ((x : ℕ) → x < m → c x ≡ 0)
    → sum_over every (λ x. f x * c x) m ≡ 0
sum_times_zero f c zero none = sum-zero every (λ x. f x * c x)
sum_times_zero f c (suc m) none =
    let more = sum-every (λ x. f x * c x) m in
    let was = sum_times_zero f c m (λ x l. none x (omega arith)) in
    let here : f m * c m ≡ f m * 0 = ap (λ n. f m * n) (none m (omega arith)) in
    omega arith

-- one more for those that pass a test
sum_times_more : (q : ℕ → Bool) (f c d : ℕ → ℕ) (m : ℕ)
    → ((x : ℕ) → x < m → q x ≡ true → d x ≡ suc (c x))
    → ((x : ℕ) → x < m → q x ≡ false → d x ≡ c x)
    → sum_over every (λ x. f x * d x) m ≡ sum_over q f m + sum_over every (λ x. f x * c x) m
sum_times_more q f c d zero passes fails =
    let a = sum-zero every (λ x. f x * d x) in
    let b = sum-zero q f in
    let e = sum-zero every (λ x. f x * c x) in
    omega arith
sum_times_more q f c d (suc m) passes fails =
    let was = sum_times_more q f c d m (λ x l e. passes x (omega arith) e)
    (λ x l e. fails x (omega arith) e) in
    let new = sum-every (λ x. f x * d x) m in
    let old = sum-every (λ x. f x * c x) m in
    elim (cases_of (q m)) [
      | inl e ↦
          let here = sum-true q f m e in
          let more : f m * d m ≡ f m * suc (c m) = ap (λ n. f m * n) (passes m (omega arith) e) in
          let product = mul-suc (f m) (c m) in
          omega arith
      | inr e ↦
          let here = sum-false q f m e in
          let same : f m * d m ≡ f m * c m = ap (λ n. f m * n) (fails m (omega arith) e) in
          omega arith
    ]

-- as often as before
sum_counted : (f c d : ℕ → ℕ) (m : ℕ) → ((x : ℕ) → x < m → d x ≡ c x)
    → sum_over every (λ x. f x * d x) m ≡ sum_over every (λ x. f x * c x) m
sum_counted f c d zero same =
    sum-zero every (λ x. f x * d x) ∙ sym (sum-zero every (λ x. f x * c x))
sum_counted f c d (suc m) same =
    let new = sum-every (λ x. f x * d x) m in
    let old = sum-every (λ x. f x * c x) m in
    let was = sum_counted f c d m (λ x l. same x (omega arith)) in
    let here : f m * d m ≡ f m * c m = ap (λ n. f m * n) (same m (omega arith)) in
    omega arith

and_false : (a b : Bool) → b ≡ false → (a && b) ≡ false
and_false true b e = e
and_false false b e = refl

false_and : (a b : Bool) → a ≡ false → (a && b) ≡ false
false_and true b e = absurd (false≢true (sym e))
false_and false b e = refl

-- A sum of sums is the sum of each number as often as it is in one of them.
sum_turned : (p : ℕ → Bool) (q : ℕ → ℕ → Bool) (f : ℕ → ℕ) (n m : ℕ)
    → sum_over p (λ v. sum_over (q v) f m) n
    ≡ sum_over every (λ x. f x * count (λ v. p v && q v x) n) m
sum_turned p q f zero m =
    sum-zero p (λ v. sum_over (q v) f m)
    ∙ sym (sum_times_zero f (λ x. count (λ v. p v && q v x) 0) m
    (λ x l. count-zero (λ v. p v && q v x)))
sum_turned p q f (suc n) m =
    let was = sum_turned p q f n m in
    let sums : ℕ → ℕ = λ v. sum_over (q v) f m in
    let some : ℕ → ℕ = λ x. count (λ v. p v && q v x) n in
    let more : ℕ → ℕ = λ x. count (λ v. p v && q v x) (suc n) in
    elim (cases_of (p n)) [
      | inl e ↦
          let here = sum-true p sums n e in
          let step = sum_times_more (q n) f some more m
          (λ x l t. count-true (λ v. p v && q v x) n (and_from _ _ e t))
          (λ x l t. count-false (λ v. p v && q v x) n (and_false (p n) (q n x) t)) in
          omega arith
      | inr e ↦
          let here = sum-false p sums n e in
          let same = sum_counted f some more m
          (λ x l. count-false (λ v. p v && q v x) n (false_and (p n) (q n x) e)) in
          omega arith
    ]

-- each number once
sum_once : (f c : ℕ → ℕ) (m : ℕ) → ((x : ℕ) → x < m → c x ≡ 1)
    → sum_over every (λ x. f x * c x) m ≡ sum_over every f m
sum_once f c zero one = sum-zero every (λ x. f x * c x) ∙ sym (sum-zero every f)
sum_once f c (suc m) one =
    let new = sum-every (λ x. f x * c x) m in
    let old = sum-every f m in
    let was = sum_once f c m (λ x l. one x (omega arith)) in
    let here : f m * c m ≡ f m * 1 = ap (λ n. f m * n) (one m (omega arith)) in
    omega arith

-- Each leaf is under one node of a front.
pub fronts_have_all : (h : Hierarchy) → HasShape h → (T : ℕ → Bool) → IsFront h T
    → (values : List ℕ)
    → sum_over (is_active h T) (sum_under h values) (node_count h)
    ≡ total_before h values (leaf_count h)
fronts_have_all h shape T front values =
    let nodes = shape_of_nodes h shape in
    sum_turned (is_active h T) (holds h) (value_of h values) (node_count h) (leaf_count h)
    ∙ sum_once (value_of h values) (λ x. count (λ v. is_active h T v && holds h v x) (node_count h))
    (leaf_count h) (λ x l.
    count_one (λ v. is_active h T v && holds h v x) (node_count h) (ancestor_of h T x)
    (ancestor-lt h nodes T _ x l)
    (and_from _ _ (is_active-from h nodes T (ancestor_of h T x) (active-ancestor h nodes T x l))
    (holds-ancestor_of h nodes T x l))
    (λ v m e. sym (ancestor_of-unique h nodes T front v x
    (is_active-true h nodes T v m (and_parts _ _ e).0) (and_parts _ _ e).1)))

-- A test that a number passes is passed by one at least.
count_some : (p : ℕ → Bool) (n x : ℕ) → x < n → p x ≡ true → 0 < count p n
count_some p zero x l e = absurd (omega arith)
count_some p (suc n) x l e =
    grind (arith, common_steps, count-false, count-true, count_some p n)

pub corner_has_chart : (h : Hierarchy) → HasShape h → (T : ℕ → Bool) → IsFront h T
    → (chart : ℕ → ℕ) (e : ℕ) → e < 3 * face_count h
    → 0 < corners_under h chart (chart (face_of e)) (ancestor_of h T (from_leaf h e))
corner_has_chart h shape T front chart e l =
    let leaf = (shape_of_faces h shape).leaves e l in
    count_some _ (3 * face_count h) e l
    (and_from _ _ (eq-eqb (chart (face_of e)) (chart (face_of e)) refl)
    (holds-ancestor_of h (shape_of_nodes h shape) T (from_leaf h e) leaf))
