-- What the rules of shape ask of a unit, each rule from the facts that pass it.
use Rattle.std.proofs.Common.{◌≡◌, ◌≢◌, ℕ, zero, suc, ◌+◌, ◌-◌, ◌<◌, ◌≤◌, ◌⊎◌, eqb, true, false}
use Rattle.std.proofs.lemmas.Grind.{common_steps}
use Rattle.std.proofs.Common.{List, [], ◌∷◌, ◌++◌, length, sum, get_or, take, Option}
use Rattle.std.proofs.Common.{None, is_some, refl, sym, subst, arith, append_assoc}
use Rattle.std.proofs.lemmas.Bool.{le-ltb, lt-leb, eq-eqb, ne_eqb, or_from, and_left}
use Rattle.std.proofs.lemmas.Bool.{and_right, cond-true, cond-false}
use Rattle.std.proofs.lemmas.List.{append-nil}
use Rattle.pm_base.specs.Place.{is_place, place_of}
use Rattle.pm_forest.specs.declared.parts.Counts.{Counts}
use Rattle.pm_forest.specs.declared.parts.Root.{Root}
use Rattle.pm_forest.specs.declared.parts.Face.{Face}
use Rattle.pm_forest.specs.declared.parts.Head.{Head}
use Rattle.pm_forest.specs.declared.parts.Shape.{Shape}
use Rattle.pm_forest.specs.Marks.{is_used}
use Rattle.pm_forest.specs.Forest.{Hierarchy, widths_of, leaf_count}
use Rattle.pm_forest.specs.Forest.{interval_of}
use Rattle.pm_forest.specs.Rules.{counts_are_bad, root_inputs, face_inputs, node_inputs}
use Rattle.pm_forest.specs.Rules.{vertex_input_is_bad, face_input_is_bad, width_is_bad, root_fault}
use Rattle.pm_forest.specs.Rules.{base_is_bad, base_fault, split_is_bad, presence_is_bad}
use Rattle.pm_forest.specs.Rules.{head_is_bad, children_fault, head_fault, AllFit}
use Rattle.pm_forest.specs.Shaping.{SplitFits}
use Rattle.pm_forest.proofs.UnitLaws.{BaseFits}
use Rattle.pm_forest.proofs.OwnerLaws.{sum-cons}

-- Units in a row

pub AllFit-from : {X : Type 0} (fault : List X → X → Option Shape) (d : X) (before xs : List X) →
    ((i : ℕ) → i < length xs → fault (before ++ take i xs) (get_or xs i d) ≡ None)
    → AllFit fault before xs
AllFit-from fault d before [] fits = tt
AllFit-from fault d before (x ∷ xs) fits = (
  subst (λ (l : List _). fault l x ≡ None) (append-nil before) (fits 0 (omega arith)),
  AllFit-from fault d (before ++ x ∷ []) xs
      (λ i l. subst (λ (ys : List _). fault ys (get_or xs i d) ≡ None)
      (sym (append_assoc before (x ∷ []) (take i xs))) (fits (suc i) (omega arith))),
)

-- Used numbers

pub unused-from : (used : List ℕ) (n : ℕ) → ((k : ℕ) → k < length used → get_or used k 0 ≢ n)
    → is_used used n ≡ false
unused-from [] n apart = refl
unused-from (m ∷ used) n apart =
    or_from (eqb m n) (is_used used n) (ne_eqb m n (apart 0 (omega arith)))
    (unused-from used n (λ k l. apart (suc k) (omega arith)))

-- Widths

length-sum : (ws : List ℕ) → ((i : ℕ) → i < length ws → 0 < get_or ws i 0) → length ws ≤ sum ws
length-sum [] wide = omega arith
length-sum (w ∷ ws) wide =
    let first = wide 0 (omega arith) in
    let later = length-sum ws (λ i l. wide (suc i) (omega arith)) in
    omega (arith, sum-cons w ws)

-- the widths up to one of them, and at least one leaf for each after it
pub widths_fit : (ws : List ℕ) (i : ℕ) → ((i : ℕ) → i < length ws → 0 < get_or ws i 0)
    → i < length ws →
    (sum (take i ws) + get_or ws i 0 + (length ws - 1 - i) ≤ sum ws)
    × (i + 1 ≡ length ws → sum (take i ws) + get_or ws i 0 ≡ sum ws)
widths_fit [] i wide l = absurd (omega arith)
widths_fit (w ∷ ws) zero wide l =
    let later = length-sum ws (λ i l. wide (suc i) (omega arith)) in (
      omega (arith, sum-cons w ws),
      λ last. none_left w ws (omega arith),
    )
  where
    none_left : (w : ℕ) (ws : List ℕ) → length ws ≡ 0 → sum [] + w ≡ sum (w ∷ ws)
    none_left w [] e = omega arith
    none_left w (x ∷ ws) e = absurd (omega arith)
widths_fit (w ∷ ws) (suc i) wide l =
    let more = widths_fit ws i (λ i l. wide (suc i) (omega arith)) (omega arith) in
    let first = sum-cons w (take i ws) in
    let all = sum-cons w ws in (
      (let a = more.0 in omega arith),
      λ last. (let a = more.1 (omega arith) in omega arith),
    )

-- One unit

pub counts_pass : (c : Counts) → c.leaves ≤ 1048576 → c.bases ≤ 1048576 → c.roots ≤ c.leaves
    → (c.roots ≡ 0 → c.leaves ≡ 0) →
    c.records ≡ c.leaves - c.roots → counts_are_bad c ≡ false
unfolding counts_are_bad
counts_pass c leaves bases roots none records =
    grind (arith, common_steps, and_left, and_right, eq-eqb, le-ltb, ne_eqb)

pub width_pass : (c : Counts) (taken before width : ℕ) → 0 < width
    → taken + width + (c.roots - 1 - before) ≤ c.leaves →
    (before + 1 ≡ c.roots → taken + width ≡ c.leaves) → width_is_bad c taken before width ≡ false
unfolding width_is_bad
width_pass c taken before width some room last =
    grind (arith, common_steps, and_left, and_right, eq-eqb, le-ltb, ne_eqb)

-- A node of one leaf has a number of its own, and another has 0.
abbrev pub InputPasses : ℕ → List ℕ → ℕ → ℕ → Type 0
InputPasses leaves used width input =
    ((width ≡ 1) × (0 < input) × (input ≤ leaves) × (is_used used input ≡ false))
    ⊎ ((width ≢ 1) × (input ≡ 0))

pub input_pass : (leaves : ℕ) (used : List ℕ) (width input : ℕ)
    → InputPasses leaves used width input →
    vertex_input_is_bad leaves used width input ≡ false
unfolding vertex_input_is_bad
input_pass leaves used width input passes =
    grind (arith, common_steps, cond-false, cond-true, eq-eqb, le-ltb, ne_eqb, or_from)

pub root_pass : (c : Counts) (before : List Root) (r : Root) → is_place r.place ≡ true →
    width_is_bad c (sum (widths_of before)) (length before) r.width ≡ false →
    vertex_input_is_bad c.leaves (root_inputs before) r.width r.input ≡ false
    → root_fault c before r ≡ None
unfolding root_fault
root_pass c before r place width input = rw (place, width, input) refl

pub face_input_pass : (used : List ℕ) (input : ℕ) → 0 < input → input ≤ 1048576
    → is_used used input ≡ false → face_input_is_bad used input ≡ false
unfolding face_input_is_bad
face_input_pass used input some most fresh =
    let nonzero : input ≢ 0 = λ e. omega arith in
    or_from _ _ (or_from _ _ (ne_eqb input 0 nonzero) (le-ltb 1048576 input most)) fresh

pub base_pass : (roots : List Root) (before : List Face) (f : Face) → BaseFits roots f
    → face_input_is_bad (face_inputs before) f.input ≡ false →
    base_fault roots before f ≡ None
unfolding base_fault base_is_bad
base_pass roots before f fits input = grind (arith, common_steps, lt-leb, ne_eqb)

pub split_pass : (h : Hierarchy) (s width : ℕ) → SplitFits h s width
    → split_is_bad h s width ≡ false
unfolding split_is_bad
split_pass h s width fits = grind (arith, common_steps, is_some, le-ltb, lt-leb, ne_eqb)

pub head_pass : (h : Hierarchy) (d : Head) → split_is_bad h d.s d.width ≡ false
    → presence_is_bad d.presence ≡ false →
    is_place (place_of d.t) ≡ true → is_place (place_of d.u) ≡ true →
    vertex_input_is_bad (leaf_count h) (node_inputs h) d.width d.t_input ≡ false →
    vertex_input_is_bad (leaf_count h) (node_inputs h ++ d.t_input ∷ [])
    ((interval_of h d.s).until - (interval_of h d.s).from - d.width) d.u_input ≡ false →
    head_fault h d ≡ None
unfolding head_fault head_is_bad children_fault
head_pass h d split presence t u first second = rw (split, presence, t, u, first, second) refl
