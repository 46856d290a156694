-- What a unit has to have so that no rule finds a fault in it.
use Rattle.std.proofs.Common.{◌≡◌, ◌≢◌, ℕ, suc, ◌+◌, ◌-◌, ◌<◌, ◌≤◌, eqb, false}
use Rattle.std.proofs.lemmas.Grind.{common_steps}
use Rattle.std.proofs.Common.{List, [], ◌∷◌, ◌++◌, length, map, get_or, take, All}
use Rattle.std.proofs.Common.{Option, None, sym, subst, arith, append_assoc}
use Rattle.std.proofs.lemmas.Bool.{ne_eqb}
use Rattle.std.proofs.lemmas.Bool.Decides.{nat_tests}
use Rattle.std.proofs.lemmas.List.{append-nil}
use Rattle.std.proofs.lemmas.List.Folds.{list_any_none}
use Rattle.std.proofs.lemmas.List.Elements.{All-weaker}
use Rattle.std.proofs.lemmas.List.FromFn.{length-map-range_with_len, get_or-map-range_with_len}
use Rattle.std.proofs.lemmas.List.FromFn.{take-map-range_with_len}
use Rattle.pm_base.specs.Counts.{numbers_below}
use Rattle.pm_forest.specs.declared.parts.Counts.{Counts}
use Rattle.pm_forest.specs.declared.parts.Root.{Root}
use Rattle.pm_forest.specs.declared.parts.Face.{Face}
use Rattle.pm_forest.specs.declared.parts.Shape.{Shape}
use Rattle.pm_forest.specs.Marks.{is_used}
use Rattle.pm_forest.specs.Forest.{Hierarchy}
use Rattle.pm_forest.specs.Rules.{counts_are_bad, vertex_input_is_bad, face_input_is_bad}
use Rattle.pm_forest.specs.Rules.{width_is_bad, base_is_bad, split_is_bad, AllFit}
use Rattle.pm_forest.specs.Shaping.{SplitFits}
use Rattle.pm_forest.proofs.UnitLaws.{BaseFits}

-- Units in a row: each fits after those before it.

pub AllFit-from : {X : Type 0} (fault : List X → X → Option Shape) (before xs : List X) (d : X) →
    ((i : ℕ) → i < length xs → fault (before ++ take i xs) (get_or xs i d) ≡ None) →
    AllFit fault before xs
AllFit-from fault before [] d fits = tt
AllFit-from fault before (x ∷ xs) d fits = (
  subst (λ (l : List _). fault l x ≡ None) (append-nil before) (fits 0 (omega arith)),
  AllFit-from fault (before ++ x ∷ []) xs d
      (λ i l.
      subst (λ (l : List _). fault l (get_or xs i d) ≡ None)
      (sym (append_assoc before (x ∷ []) (take i xs))) (fits (suc i) (omega arith))),
)

pub AllFit-made : {X : Type 0} (fault : List X → X → Option Shape) (f : ℕ → X) (n : ℕ) (d : X) →
    ((i : ℕ) → i < n → fault (map f (numbers_below i)) (f i) ≡ None) →
    AllFit fault [] (map f (numbers_below n))
AllFit-made fault f n d fits =
    AllFit-from fault [] (map f (numbers_below n)) d
    (λ i l.
    let m : i < n = omega (arith, length-map-range_with_len f 0 n) in
    rw (
      take-map-range_with_len f 0 n i (omega arith),
      get_or-map-range_with_len f 0 n i i d m (omega arith),
    ) (fits i m))

-- Counts

pub counts_pass : (c : Counts) → c.leaves ≤ 1048576 → c.bases ≤ 1048576 → c.roots ≤ c.leaves →
    (c.roots ≡ 0 → c.leaves ≡ 0) → c.records + c.roots ≡ c.leaves → counts_are_bad c ≡ false
unfolding counts_are_bad
counts_pass c leaves bases roots none records = grind (arith, nat_tests)

-- Input numbers

pub unused_by : (used : List ℕ) (x : ℕ) → All (λ m. m ≢ x) used → is_used used x ≡ false
unused_by used x differ =
    list_any_none (λ m. eqb m x) used
    (All-weaker (λ m. m ≢ x) (λ m. eqb m x ≡ false) (λ m. ne_eqb m x) used differ)

pub vertex_input_passes : (leaves : ℕ) (used : List ℕ) (width input : ℕ) →
    (width ≡ 1 → (0 < input) × (input ≤ leaves) × (is_used used input ≡ false)) →
    (width ≢ 1 → input ≡ 0) → vertex_input_is_bad leaves used width input ≡ false
unfolding vertex_input_is_bad
vertex_input_passes leaves used width input one other = grind (arith, common_steps, nat_tests)

pub face_input_passes : (used : List ℕ) (n : ℕ) → n < 1048576 → All (λ m. m ≤ n) used →
    face_input_is_bad used (n + 1) ≡ false
unfolding face_input_is_bad
face_input_passes used n most lower =
    let new : is_used used (n + 1) ≡ false =
    unused_by used (n + 1)
    (All-weaker (λ m. m ≤ n) (λ m. m ≢ n + 1) (λ m l. omega arith) used lower) in
    rw new (grind (arith, common_steps, nat_tests))

-- Places of units

pub width_passes : (c : Counts) (taken before width : ℕ) → 0 < width →
    taken + width + (c.roots - 1 - before) ≤ c.leaves →
    (before + 1 ≡ c.roots → taken + width ≡ c.leaves) →
    width_is_bad c taken before width ≡ false
unfolding width_is_bad
width_passes c taken before width some rest last = grind (arith, nat_tests)

pub base_passes : (roots : List Root) (f : Face) → BaseFits roots f → base_is_bad roots f ≡ false
unfolding base_is_bad
base_passes roots f fits = grind (arith, common_steps, nat_tests)

pub split_passes : (h : Hierarchy) (s width : ℕ) → SplitFits h s width →
    split_is_bad h s width ≡ false
unfolding split_is_bad
split_passes h s width fits = grind (arith, common_steps, nat_tests)
