-- The least and the greatest number under each node, from its children's.
use Rattle.std.proofs.Common.{◌≡◌, ℕ, zero, suc, ◌+◌, ◌-◌, ◌<◌, ◌≤◌, List, length, set, length-set}
use Rattle.std.proofs.Common.{Some, inl, inr, refl, sym, ap, subst, ◌∙◌, arith}
use Rattle.std.proofs.lemmas.Grind.{common_steps}
use Rattle.std.proofs.lemmas.Bool.{cases_eq}
use Rattle.std.proofs.lemmas.Int.{clamps}
use Rattle.std.proofs.lemmas.List.{get_or-set_same, get_or-set_other}
use Rattle.std.specs.Prelude.{ℤ, pos, ◌≤ℤ◌}
use Rattle.std.specs.Int.{int_min, int_max}
use borrow.Author.Differences.{ints}
use Rattle.pm_base.proofs.Search.{option_cases}
use Rattle.pm_forest.specs.Forest.{Hierarchy, Interval, record_at, record_count, node_count, s_of}
use Rattle.pm_forest.specs.Forest.{t_of, u_of, interval_of, splitter_of, HasForestShape}
use Rattle.pm_forest.specs.Rules.{HasShape}
use Rattle.pm_forest.proofs.HierarchyLaws.{unsplit-single}
use Rattle.pm_forest.proofs.Nodes.{splitter_of-splits, interval_of-t, interval_of-u}
use Rattle.pm_forest.proofs.ShapeLaws.{shape_of_nodes}
use Rattle.pm_fits.specs.declared.ranges.Range.{Range}
use Rattle.pm_fits.specs.Fits.{number_at, least_from, greatest_from, range_under}
use Rattle.pm_fits.specs.Ranges.{range_of, joined, range_at, AreFirst, AreRanges}

min_min : (a b c : ℤ) → int_min (int_min a b) c ≡ int_min a (int_min b c)
min_min a b c = omega (arith, ints, clamps)

max_max : (a b c : ℤ) → int_max (int_max a b) c ≡ int_max a (int_max b c)
max_max a b c = omega (arith, ints, clamps)

least-one : (f : ℕ → ℤ) (a : ℕ) → least_from f a 0 ≡ f a
unfolding least_from
least-one f a = refl

least-more : (f : ℕ → ℤ) (a n : ℕ)
    → least_from f a (suc n) ≡ int_min (least_from f a n) (f (a + suc n))
unfolding least_from
least-more f a n = refl

greatest-one : (f : ℕ → ℤ) (a : ℕ) → greatest_from f a 0 ≡ f a
unfolding greatest_from
greatest-one f a = refl

greatest-more : (f : ℕ → ℤ) (a n : ℕ)
    → greatest_from f a (suc n) ≡ int_max (greatest_from f a n) (f (a + suc n))
unfolding greatest_from
greatest-more f a n = refl

-- numbers in a row, and those after them
least_joined : (f : ℕ → ℤ) (a m n k : ℕ) → k ≡ m + n + 1
    → least_from f a k ≡ int_min (least_from f a m) (least_from f (a + m + 1) n)
least_joined f a m n zero e = absurd (omega arith)
least_joined f a m zero (suc k) e =
    let same : k ≡ m = omega arith in
    let at : a + suc k ≡ a + m + 1 = omega arith in
    least-more f a k
    ∙ (ap (λ j. int_min (least_from f a j) (f (a + suc k))) same
    ∙ (ap (λ j. int_min (least_from f a m) (f j)) at
    ∙ ap (int_min (least_from f a m)) (sym (least-one f (a + m + 1)))))
least_joined f a m (suc n) (suc k) e =
    let at : a + suc k ≡ a + m + 1 + suc n = omega arith in
    let rest = least_from f (a + m + 1) n in
    least-more f a k
    ∙ (ap (λ z. int_min z (f (a + suc k))) (least_joined f a m n k (omega arith))
    ∙ (ap (λ j. int_min (int_min (least_from f a m) rest) (f j)) at
    ∙ (min_min (least_from f a m) rest (f (a + m + 1 + suc n))
    ∙ ap (int_min (least_from f a m)) (sym (least-more f (a + m + 1) n)))))

greatest_joined : (f : ℕ → ℤ) (a m n k : ℕ) → k ≡ m + n + 1
    → greatest_from f a k ≡ int_max (greatest_from f a m) (greatest_from f (a + m + 1) n)
greatest_joined f a m n zero e = absurd (omega arith)
greatest_joined f a m zero (suc k) e =
    let same : k ≡ m = omega arith in
    let at : a + suc k ≡ a + m + 1 = omega arith in
    greatest-more f a k
    ∙ (ap (λ j. int_max (greatest_from f a j) (f (a + suc k))) same
    ∙ (ap (λ j. int_max (greatest_from f a m) (f j)) at
    ∙ ap (int_max (greatest_from f a m)) (sym (greatest-one f (a + m + 1)))))
greatest_joined f a m (suc n) (suc k) e =
    let at : a + suc k ≡ a + m + 1 + suc n = omega arith in
    let rest = greatest_from f (a + m + 1) n in
    greatest-more f a k
    ∙ (ap (λ z. int_max z (f (a + suc k))) (greatest_joined f a m n k (omega arith))
    ∙ (ap (λ j. int_max (int_max (greatest_from f a m) rest) (f j)) at
    ∙ (max_max (greatest_from f a m) rest (f (a + m + 1 + suc n))
    ∙ ap (int_max (greatest_from f a m)) (sym (greatest-more f (a + m + 1) n)))))

-- between numbers between which all lie
pub least_above : (f : ℕ → ℤ) (a n : ℕ) (b : ℤ) → ((x : ℕ) → a ≤ x → x ≤ a + n → b ≤ℤ f x)
    → b ≤ℤ least_from f a n
least_above f a zero b all = rw (least-one f a) (all a (omega arith) (omega arith))
least_above f a (suc n) b all =
    let was = least_above f a n b (λ x l m. all x l (omega arith)) in
    let here = all (a + suc n) (omega arith) (omega arith) in
    rw (least-more f a n) (omega (arith, ints, clamps, was, here))

pub least_below : (f : ℕ → ℤ) (a n : ℕ) → least_from f a n ≤ℤ f a
least_below f a zero = rw (least-one f a) (omega (arith, ints))
least_below f a (suc n) =
    let was = least_below f a n in rw (least-more f a n) (omega (arith, ints, clamps, was))

pub greatest_below : (f : ℕ → ℤ) (a n : ℕ) (b : ℤ) → ((x : ℕ) → a ≤ x → x ≤ a + n → f x ≤ℤ b)
    → greatest_from f a n ≤ℤ b
greatest_below f a zero b all = rw (greatest-one f a) (all a (omega arith) (omega arith))
greatest_below f a (suc n) b all =
    let was = greatest_below f a n b (λ x l m. all x l (omega arith)) in
    let here = all (a + suc n) (omega arith) (omega arith) in
    rw (greatest-more f a n) (omega (arith, ints, clamps, was, here))

-- The range of numbers in a row
abbrev pub row : (ℕ → ℤ) → ℕ → ℕ → Range
row f a n = record { least = least_from f a n; greatest = greatest_from f a n }

row_joined : (f : ℕ → ℤ) (a m n k : ℕ) → k ≡ m + n + 1
    → row f a k ≡ joined (row f a m) (row f (a + m + 1) n)
row_joined f a m n k e = rw (least_joined f a m n k e, greatest_joined f a m n k e) refl

module _ (h : Hierarchy) (numbers : List ℤ) where
  pub range_is : (v : ℕ) (i : Interval) → interval_of h v ≡ i
      → range_under h numbers v ≡ row (number_at numbers) i.from (i.until - i.from - 1)
  unfolding range_under
  range_is v i is = ap (λ (j : Interval). row (number_at numbers) j.from (j.until - j.from - 1)) is

  range_by : (v a n : ℕ) (i : Interval) → interval_of h v ≡ i → i.from ≡ a → i.until ≡ a + n + 1
      → range_under h numbers v ≡ row (number_at numbers) a n
  range_by v a n i is from until =
      let more : i.until - i.from - 1 ≡ n = omega arith in
      range_is v i is
      ∙ (ap (λ j. row (number_at numbers) j (i.until - i.from - 1)) from
      ∙ ap (row (number_at numbers) a) more)

  pub range_alone : (v : ℕ) → (interval_of h v).until ≡ (interval_of h v).from + 1
      → range_under h numbers v ≡ range_of (number_at numbers (interval_of h v).from)
  range_alone v alone =
      let a = (interval_of h v).from in
      range_by v a 0 (interval_of h v) refl refl (omega arith)
      ∙ rw (least-one (number_at numbers) a, greatest-one (number_at numbers) a) refl

  module _ (nodes : HasForestShape h) where
    pub range_split : (k : ℕ) → k < record_count h
        → range_under h numbers (s_of h k)
        ≡ joined (range_under h numbers (t_of h k)) (range_under h numbers (u_of h k))
    range_split k l =
        let i = interval_of h (s_of h k) in
        let w = (record_at h k).width in
        let wide = nodes.width k l in
        let m = w - 1 in
        let n = i.until - i.from - w - 1 in
        let f = number_at numbers in
        let t = range_by (t_of h k) i.from m _ (interval_of-t h nodes k l) refl
        (omega (arith, wide.0)) in
        let u = range_by (u_of h k) (i.from + m + 1) n _ (interval_of-u h nodes k l)
        (omega (arith, wide.0)) (omega (arith, wide.0, wide.1)) in
        range_by (s_of h k) i.from (m + n + 1) i refl refl (omega (arith, wide.0, wide.1))
        ∙ (row_joined f i.from m n (m + n + 1) refl
        ∙ sym (rw (t, u) refl))

-- No record below k splits node v.
abbrev pub DoneFrom : Hierarchy → ℕ → ℕ → Type 0
DoneFrom h k v = (j : ℕ) → splitter_of h v ≡ Some j → k ≤ j

-- The ranges once the records from k on have been gone through.
pub record AreJoined (h : Hierarchy) (numbers : List ℤ) (now : List Range) (k : ℕ) : Type 0 where
  pub len : length now ≡ node_count h
  pub each : (v : ℕ) → v < node_count h → DoneFrom h k v
      → range_at now v ≡ range_under h numbers v

-- no record up to k splits a child of record k
later : (h : Hierarchy) → HasForestShape h → (k j v : ℕ) → k < record_count h → t_of h k ≤ v
    → splitter_of h v ≡ Some j → k < j
later h nodes k j v l child e = grind (arith, common_steps, splitter_of-splits h j v e)

module _ (h : Hierarchy) (shape : HasShape h) (numbers : List ℤ) where
  pub joined_start : (first : List Range) → AreFirst h numbers (node_count h) first
      → AreJoined h numbers first (record_count h)
  joined_start first are = record {
    len = are.len;
    each = λ v l done. elim (option_cases (splitter_of h v)) [
      | inl none ↦
          are.each v l ∙ sym (range_alone h numbers v ((unsplit-single h shape v l).0 none))
      | inr (j, e) ↦ (let p = (splitter_of-splits h j v e).1 in let q = done j e in
          absurd (omega arith))
    ];
  }

  pub joined_step : (old : List Range) (k : ℕ) (x : Range) → k < record_count h
      → AreJoined h numbers old (suc k)
      → x ≡ joined (range_at old (t_of h k)) (range_at old (u_of h k))
      → AreJoined h numbers (set old (s_of h k) x) k
  joined_step old k x l was is =
      let nodes = shape_of_nodes h shape in
      let older = nodes.older k l in
      let len = was.len in
      let inside : s_of h k < length old = omega arith in
      let t = was.each (t_of h k) (omega arith)
      (λ j e. later h nodes k j (t_of h k) l (omega arith) e) in
      let u = was.each (u_of h k) (omega arith)
      (λ j e. later h nodes k j (u_of h k) l (omega arith) e) in
      let value : x ≡ range_under h numbers (s_of h k) =
      is ∙ (rw (t, u) (sym (range_split h numbers nodes k l))) in
      record {
        len = length-set old (s_of h k) x ∙ len;
        each = λ v m done. elim (cases_eq v (s_of h k)) [
          | inl same ↦
              subst (λ w. range_at (set old (s_of h k) x) w ≡ range_under h numbers w) (sym same)
              (get_or-set_same old (s_of h k) x (range_of (pos 0)) inside ∙ value)
          | inr other ↦
              let still : DoneFrom h (suc k) v = λ j e. (let q = done j e in elim (cases_eq j k) [
                | inl at_k ↦
                    absurd (other (sym (ap (s_of h) (sym at_k) ∙ (splitter_of-splits h j v e).0)))
                | inr past ↦ omega arith
              ]) in
              get_or-set_other old (s_of h k) v x (range_of (pos 0)) other ∙ was.each v m still
        ];
      }

  pub joined_all : (now : List Range) → AreJoined h numbers now 0 → AreRanges h numbers now
  joined_all now are = record {
    len = are.len;
    each = λ v l. are.each v l (λ j e. omega arith);
  }
