-- How often a list of needs has a record, and what a record needs.
use Rattle.std.proofs.Common.{◌≡◌, ℕ, zero, suc, ◌+◌, ◌*◌, ◌<◌, ◌≤◌, Bool, true, false, ◌||◌, cond}
use Rattle.std.proofs.lemmas.Grind.{common_steps}
use Rattle.std.proofs.Common.{List, [], ◌∷◌, length, map, filter, get_or, Option, None, Some, inl}
use Rattle.std.proofs.Common.{inr, refl, sym, ap, ◌∙◌, subst, arith, length-append}
use Rattle.std.specs.List.{All, list_any}
use Rattle.std.proofs.lemmas.Bool.{or_cases, or_left, or_right, or_parts, both_ways, cond-true}
use Rattle.std.proofs.lemmas.Bool.{cond-false}
use Rattle.std.proofs.lemmas.List.{length-map}
use Rattle.std.proofs.lemmas.List.Sums.{length-filter, count_by-le-length}
use Rattle.pm_base.specs.declared.ids.Side.{Side}
use Rattle.pm_forest.specs.declared.parts.NewFace.{NewFace}
use Rattle.pm_forest.specs.declared.parts.Record.{Record}
use Rattle.pm_forest.specs.Forest.{Hierarchy, record_at, record_count, s_of, maker_of}
use Rattle.pm_forest.specs.Faces.{face_count, record_of}
use Rattle.pm_forest.specs.Moves.{side_in, sides_in, neighbours_in, neighbours_of}
use Rattle.pm_forest.specs.Rules.{HasShape}
use Rattle.pm_forest.proofs.Nodes.{maker_of-makes, maker_of-from}
use Rattle.pm_beyond.specs.Moves.{Needs, as_maker, as_neighbour, is_at, needs}
use Rattle.pm_beyond.proofs.Distinct.{any-parts, any-from}
use Rattle.pm_beyond.proofs.Neighbours.{recorded-in, recorded-has}
use Rattle.pm_beyond.proofs.PlanLists.{same_bools}
use Rattle.pm_beyond.proofs.Outer.{is_at-parts, is_at-from, needs-true, needs-from}
use Rattle.pm_candidates.specs.Needed.{needed_by, revealer_of, times_in, times_needed}
use Rattle.pm_candidates.proofs.NeighbourLaws.{neighbours_there, all_first, all_second}

-- How many of a list pass, one item on.
passing_by : {X : Type 0} (b : Bool) (x : X) (xs : List X)
    → length (cond b (x ∷ xs) xs) ≡ cond b 1 0 + length xs
passing_by true x xs = omega arith
passing_by false x xs = omega arith

pub passing_more : {X : Type 0} (p : X → Bool) (x : X) (xs : List X)
    → length (filter p (x ∷ xs)) ≡ cond (p x) 1 0 + length (filter p xs)
passing_more p x xs = passing_by (p x) x (filter p xs)

-- None passes exactly where there are none that do.
pub none_pass : {X : Type 0} (p : X → Bool) (xs : List X) → list_any p xs ≡ false
    → length (filter p xs) ≡ 0
none_pass p [] e = refl
none_pass p (x ∷ xs) e =
    grind (arith, common_steps, cond-false, or_parts, passing_more, none_pass p xs)

pub some_pass : {X : Type 0} (p : X → Bool) (xs : List X) → list_any p xs ≡ true
    → 0 < length (filter p xs)
some_pass p [] e = absurd (both_ways false refl e)
some_pass p (x ∷ xs) e =
    grind (arith, common_steps, cond-true, or_cases, passing_more, some_pass p xs)

pub any-map : {X Y : Type 0} (p : Y → Bool) (f : X → Y) (xs : List X)
    → list_any p (map f xs) ≡ list_any (λ x. p (f x)) xs
any-map p f [] = refl
any-map p f (x ∷ xs) = ap (λ b. p (f x) || b) (any-map p f xs)

-- A list of four.
pub four_items : {X : Type 0} (d : X) (xs : List X) → length xs ≡ 4
    → xs ≡ get_or xs 0 d ∷ get_or xs 1 d ∷ get_or xs 2 d ∷ get_or xs 3 d ∷ []
four_items d [] e = absurd (omega arith)
four_items d (a ∷ []) e = absurd (omega arith)
four_items d (a ∷ b ∷ []) e = absurd (omega arith)
four_items d (a ∷ b ∷ c ∷ []) e = absurd (omega arith)
four_items d (a ∷ b ∷ c ∷ x ∷ []) e = refl
four_items d (a ∷ b ∷ c ∷ x ∷ y ∷ xs) e = absurd (omega arith)

-- At most four neighbours are recorded.
few_side : (o : Option Side) → length (side_in o) ≤ 1
few_side None = omega arith
few_side (Some e) = omega arith

few_in : (o : Option NewFace) → length (neighbours_in o) ≤ 2
few_in None = omega arith
few_in (Some n) = grind (arith, common_steps, few_side, length-append)

few_neighbours : (r : Record) → length (neighbours_of r) ≤ 4
few_neighbours r = grind (arith, common_steps, few_in, length-append)

-- A recorded neighbour's side is one of the hierarchy.
neighbour_below : (most : ℕ) (items : List (Option Side)) (i : ℕ) → i < length items
    → All (λ e. e < most) (sides_in items) → All (λ e. e < most) (side_in (get_or items i None))
neighbour_below most [] i l all = absurd (omega arith)
neighbour_below most (x ∷ xs) zero l all = all_first most (side_in x) (sides_in xs) all
neighbour_below most (x ∷ xs) (suc i) l all =
    neighbour_below most xs i (omega arith) (all_second most (side_in x) (sides_in xs) all)

module _ (h : Hierarchy) where
  pub neighbour_there : (k i : ℕ) (items : List (Option Side)) → HasShape h → k < record_count h
      → sides_in items ≡ neighbours_of (record_at h k) → i < length items →
      All (λ e. e < 3 * face_count h) (side_in (get_or items i None))
  neighbour_there k i items shape l are at =
      neighbour_below (3 * face_count h) items i at
      (subst (All (λ e. e < 3 * face_count h)) (sym are) (neighbours_there h shape k l))

  -- What record k needs is what made its node, and what reveals the neighbours that it records.
  pub needs_is : (k j : ℕ) → k < record_count h
      → (is_at j (maker_of h (s_of h k)) || list_any (λ b. is_at j (record_of h b))
      (neighbours_of (record_at h k))) ≡ needs h k j
  needs_is k j l =
      let made = is_at j (maker_of h (s_of h k)) in
      let p = λ (b : ℕ). is_at j (record_of h b) in
      let sides = neighbours_of (record_at h k) in
      same_bools (made || list_any p sides) (needs h k j)
      (λ e. needs-from h k j (elim (or_cases made (list_any p sides) e) [
        | inl t ↦ as_maker (maker_of-makes h j (s_of h k) (is_at-parts j _ t))
        | inr t ↦
            let (b, i, u) = any-parts p sides t in
            let r = recorded-has h k b l i in
            as_neighbour r.side b r.is_side r.outer r.expects (is_at-parts j _ u)
      ]))
      (λ e. by_need k j (needs-true h k j l e))
    where
      by_need : (k j : ℕ) → Needs h k j
          → (is_at j (maker_of h (s_of h k)) || list_any (λ b. is_at j (record_of h b))
          (neighbours_of (record_at h k))) ≡ true
      by_need k j (as_maker m) =
          or_left (is_at j (maker_of h (s_of h k)))
          (list_any (λ b. is_at j (record_of h b)) (neighbours_of (record_at h k)))
          (is_at-from j _ (maker_of-from h j (s_of h k) m))
      by_need k j (as_neighbour e b l outer q r) =
          or_right (is_at j (maker_of h (s_of h k)))
          (list_any (λ b. is_at j (record_of h b)) (neighbours_of (record_at h k)))
          (any-from (λ b. is_at j (record_of h b)) (neighbours_of (record_at h k)) b
          (recorded-in h k e b l outer q) (is_at-from j (record_of h b) r))

  -- The list has what a record needs, and nothing else.
  pub needed_by-needs : (j k : ℕ) → j < record_count h → list_any (is_at k) (needed_by h j)
      ≡ needs h j k
  needed_by-needs j k l =
      ap (λ b. is_at k (maker_of h (s_of h j)) || b)
      (any-map (is_at k) (record_of h) (neighbours_of (record_at h j))) ∙ needs_is j k l

  pub times_needed-none : (j k : ℕ) → j < record_count h → needs h j k ≡ false
      → times_needed h j k ≡ 0
  times_needed-none j k l e = none_pass (is_at k) (needed_by h j) (needed_by-needs j k l ∙ e)

  pub times_needed-some : (j k : ℕ) → j < record_count h → needs h j k ≡ true
      → 0 < times_needed h j k
  times_needed-some j k l e = some_pass (is_at k) (needed_by h j) (needed_by-needs j k l ∙ e)

  -- It has no more than five.
  pub times_needed-most : (j k : ℕ) → times_needed h j k ≤ 5
  times_needed-most j k =
      grind (
        arith,
        common_steps,
        count_by-le-length (is_at k) (needed_by h j),
        few_neighbours (record_at h j),
        length-filter (is_at k) (needed_by h j),
        length-map (neighbours_of (record_at h j)) (record_of h),
      )

  -- The needs by the places of the neighbours are these, and none where no neighbour is recorded.
  revealed_times : (k : ℕ) (items : List (Option Side)) → times_in k (map (revealer_of h) items)
      ≡ times_in k (map (record_of h) (sides_in items))
  revealed_times k [] = refl
  revealed_times k (None ∷ items) = revealed_times k items
  revealed_times k (Some side ∷ items) =
      grind (arith, common_steps, passing_more, revealed_times k items)

  pub needs_times : (j k : ℕ) (items : List (Option Side)) → length items ≡ 4
      → sides_in items ≡ neighbours_of (record_at h j) →
      times_in k (maker_of h (s_of h j) ∷ revealer_of h (get_or items 0 None)
      ∷ revealer_of h (get_or items 1 None) ∷ revealer_of h (get_or items 2 None)
      ∷ revealer_of h (get_or items 3 None) ∷ []) ≡ times_needed h j k
  needs_times j k items four are =
      let made = maker_of h (s_of h j) in
      let at = λ (needed : List (Option ℕ)). times_in k (made ∷ needed) in
      ap (λ (all : List (Option Side)). at (map (revealer_of h) all))
      (sym (four_items None items four))
      ∙ passing_more (is_at k) made (map (revealer_of h) items)
      ∙ ap (λ n. cond (is_at k made) 1 0 + n) (revealed_times k items
      ∙ ap (λ sides. times_in k (map (record_of h) sides)) are)
      ∙ sym (passing_more (is_at k) made (map (record_of h) (neighbours_of (record_at h j))))
