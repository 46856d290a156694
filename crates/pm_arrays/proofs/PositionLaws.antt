-- Where a number stands among those that pass a test.
use Rattle.std.proofs.Common.{◌≡◌, ℕ, ◌+◌, ◌-◌, ◌*◌, ◌<◌, Bool, true, List, [], ◌∷◌, ◌++◌, length}
use Rattle.std.proofs.Common.{filter, get_or, sym, ap, ◌∙◌, arith, length-append}
use Rattle.std.specs.List.{range_with_len}
use Rattle.std.proofs.lemmas.List.Elements.{filter-append}
use Rattle.std.proofs.lemmas.List.{get_or_append_left}
use Rattle.std.proofs.Math.Seq.{get_or-append_seam}
use Rattle.pm_forest.specs.Forest.{Hierarchy, node_count}
use Rattle.pm_forest.specs.Fronts.{IsActive, is_active}
use Rattle.pm_forest.specs.Faces.{face_count, from_leaf}
use Rattle.pm_forest.specs.Rules.{HasShape}
use Rattle.pm_forest.proofs.Ancestors.{there-lt, active-ancestor}
use Rattle.pm_forest.proofs.Active.{is_active-from}
use Rattle.pm_forest.proofs.ShapeLaws.{shape_of_nodes, shape_of_faces}
use Rattle.pm_arrays.specs.Arrays.{corner_node, position_of, ArePositions}
use Rattle.pm_arrays.specs.Laws.{PositionsAreSound}
use Rattle.pm_base.specs.Counts.{count, numbers_below}
use Rattle.pm_front.proofs.Counting.{numbers_parts, passing_next, length-passing}

-- Those before it come first.
passing_parts : (p : ℕ → Bool) (v n : ℕ) → v < n → p v ≡ true →
    filter p (numbers_below n) ≡ (filter p (numbers_below v) ++ v ∷ [])
    ++ filter p (range_with_len (v + 1) (n - (v + 1)))
passing_parts p v n l pass =
    ap (λ (xs : List ℕ). filter p xs) (numbers_parts (v + 1) (n - (v + 1)) n (omega arith))
    ∙ filter-append p (numbers_below (v + 1)) (range_with_len (v + 1) (n - (v + 1)))
    ∙ ap (λ (xs : List ℕ). xs ++ filter p (range_with_len (v + 1) (n - (v + 1))))
    (passing_next p v pass)

pub position_below : (p : ℕ → Bool) (v n : ℕ) → v < n → p v ≡ true
    → count p v < length (filter p (numbers_below n))
position_below p v n l pass =
    let rest = filter p (range_with_len (v + 1) (n - (v + 1))) in
    let parts = ap length (passing_parts p v n l pass) in
    let outer = length-append (filter p (numbers_below v) ++ v ∷ []) rest in
    let inner = length-append (filter p (numbers_below v)) (v ∷ []) in
    let before = length-passing p v in
    omega (arith, parts, outer, inner, before)

pub stands_at : (p : ℕ → Bool) (v n : ℕ) → v < n → p v ≡ true
    → get_or (filter p (numbers_below n)) (count p v) 0 ≡ v
stands_at p v n l pass =
    let rest = filter p (range_with_len (v + 1) (n - (v + 1))) in
    let before = filter p (numbers_below v) in
    let inner = length-append before (v ∷ []) in
    let seam = get_or-append_seam before v [] 0 in
    let len = length-passing p v in
    ap (λ (xs : List ℕ). get_or xs (count p v) 0) (passing_parts p v n l pass)
    ∙ get_or_append_left (before ++ v ∷ []) rest 0 (count p v) (omega (arith, inner, len))
    ∙ ap (λ i. get_or (before ++ v ∷ []) i 0) (sym len) ∙ seam

-- A node at a corner is there, is active, and stands at its position.
module _ (h : Hierarchy) (shape : HasShape h) (T : ℕ → Bool) (e : ℕ) (l : e < 3 * face_count h)
  where
    corner_is : IsActive h T (corner_node h T e)
    corner_is = active-ancestor h (shape_of_nodes h shape) T (from_leaf h e)
        ((shape_of_faces h shape).leaves e l)

    pub corner_there : corner_node h T e < node_count h
    corner_there = there-lt h (shape_of_nodes h shape) T (corner_node h T e) corner_is.0

    pub corner_active : is_active h T (corner_node h T e) ≡ true
    corner_active = is_active-from h (shape_of_nodes h shape) T (corner_node h T e) corner_is

    pub told_at : (table : List ℕ) (v : ℕ) → ArePositions h T table → v ≡ corner_node h T e
        → (v < length table) × (get_or table v 0 ≡ position_of h T (corner_node h T e))
    told_at table v are is =
        let there = corner_there in (
          omega (arith, is, there, are.len),
          ap (λ i. get_or table i 0) is ∙ are.each (corner_node h T e) there corner_active,
        )

-- The law of positions.
pub positions_sound : PositionsAreSound
positions_sound h shape T e l =
    let there = corner_there h shape T e l in
    let active = corner_active h shape T e l in (
      position_below (is_active h T) (corner_node h T e) (node_count h) there active,
      stands_at (is_active h T) (corner_node h T e) (node_count h) there active,
    )
