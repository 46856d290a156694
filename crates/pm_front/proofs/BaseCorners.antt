-- The corner lists of the base front, made of the corners of base faces alone: while a hierarchy is
-- being opened, these are gathered just as they would be among all others, and in the end there are
-- no others.
use Rattle.std.proofs.Common.{◌≡◌, ℕ, suc, ◌+◌, ◌-◌, ◌*◌, ◌<◌, ◌≤◌, Bool, true, false, List, []}
use Rattle.std.proofs.lemmas.Grind.{common_steps}
use Rattle.std.proofs.Common.{◌++◌, length, inl, inr, refl, sym, ap, ◌∙◌, arith}
use Rattle.std.specs.List.{filter, range_with_len}
use Rattle.std.proofs.lemmas.Bool.{cases_eq, lt-ltb, false≢true, false_from_ne_true}
use Rattle.std.proofs.lemmas.Bool.{not_from_false}
use Rattle.std.proofs.lemmas.List.{ext_get_or, get_or-replicate, length-replicate}
use Rattle.std.proofs.lemmas.List.Elements.{filter-append}
use Rattle.pm_base.specs.Sides.{face_of}
use Rattle.pm_links.specs.Lists.{Lists, list_of, has, empty_lists, with_moved}
use Rattle.pm_links.proofs.Calls.{after_move}
use Rattle.pm_forest.specs.Forest.{Hierarchy, node_count, record_count, s_of, t_of, u_of}
use Rattle.pm_forest.specs.Fronts.{every, below, no_records}
use Rattle.pm_forest.specs.Faces.{first_face, face_count}
use Rattle.pm_forest.specs.Kept.{is_shown}
use Rattle.pm_forest.specs.Rules.{HasShape}
use Rattle.pm_forest.proofs.Ancestors.{below-front}
use Rattle.pm_forest.proofs.FaceNumbers.{first_face-mono}
use Rattle.pm_forest.proofs.HierarchyLaws.{revealed-base}
use Rattle.pm_forest.proofs.Nodes.{cases_made}
use Rattle.pm_forest.proofs.ShapeLaws.{shape_of_nodes, shape_is_forest}
use Rattle.pm_forest.proofs.Shown.{shown_base, shown_record, shown-parts}
use Rattle.pm_sides.proofs.RecordSides.{corner_of-record}
use Rattle.pm_sides.proofs.SplitNodeLaws.{s_below}
use Rattle.pm_base.specs.Counts.{numbers_below}
use Rattle.pm_front.specs.Corners.{listed, is_under, is_not_between, rest_of, collapsed_list}
use Rattle.pm_front.specs.Corners.{collapsed_lists, full_list, full_base_lists, full_lists}
use Rattle.pm_front.specs.Corners.{base_lists}
use Rattle.pm_front.specs.Active.{AreShown}
use Rattle.pm_front.specs.Members.{AreSameNumbers}
use Rattle.pm_front.proofs.RangeLaws.{first_ones}
use Rattle.pm_front.proofs.ListLaws.{has_filter-parts, filter-all, filter-swap, passing_first}
use Rattle.pm_front.proofs.NodeLists.{is_corner_of, corner_of-parts, listed-by_node, listed-past}
use Rattle.pm_front.proofs.NodeLists.{length-by_node}
use Rattle.pm_front.proofs.CollapsedCorners.{collapsed-s, collapsed-child, collapsed-other}
use Rattle.pm_front.proofs.MoveLaws.{empty-s, collapse-gathered}
use Rattle.pm_front.proofs.CornerTables.{Filling, children-differ}
use Rattle.pm_front.proofs.OpenedLists.{opened_lists, opened-full, opened-next, opened-base}
use Rattle.pm_front.proofs.OpenedLists.{opened-corners, base-right}

-- ---- the corners of base faces

abbrev pub is_base : Hierarchy → ℕ → Bool
is_base h e = is_shown h no_records e

pub bases-few : (h : Hierarchy) → length h.bases ≤ face_count h
unfolding first_face
bases-few h = first_face-mono h 0 (record_count h) (omega arith)

base-early : (h : Hierarchy) (e : ℕ) → e < 3 * length h.bases → is_base h e ≡ true
base-early h e l =
    let few = bases-few h in
    shown_base h no_records e ((revealed-base h (face_of e) (omega arith)).1 (omega arith))

base-late : (h : Hierarchy) (e : ℕ) → e < 3 * face_count h → 3 * length h.bases ≤ e
    → is_base h e ≡ false
base-late h e l late = grind (arith, common_steps, false≢true, revealed-base, shown-parts)

-- no record has one
base-outside : (h : Hierarchy) (k : ℕ) → k < record_count h → (e : ℕ) → is_base h e ≡ true
    → is_not_between (3 * first_face h k) (3 * first_face h (k + 1)) e ≡ true
base-outside h k k_lt e base =
    not_from_false (is_corner_of h k e) (false_from_ne_true (is_corner_of h k e) (λ t.
    let p = corner_of-parts h k e t in
    let own = (corner_of-record h k e k_lt p.0 p.1).1 in
    false≢true (sym (shown_record h no_records e k own) ∙ base)))

base-numbers : (h : Hierarchy) → filter (is_base h) (numbers_below (3 * face_count h))
    ≡ numbers_below (3 * length h.bases)
base-numbers h = grind (arith, common_steps, base-early, base-late, bases-few, passing_first)

-- these faces are kept
pub base-kept : (h : Hierarchy) (xs new : List ℕ) → xs ≡ []
    → AreSameNumbers new (range_with_len 0 (length h.bases - 0) ++ xs) → AreShown h no_records new
base-kept h xs new none are =
    grind (
      arith,
      common_steps,
      false≢true,
      base-early h,
      base-late h,
      bases-few h,
      first_ones (length h.bases) xs new none are,
    )

-- ---- in the lists of the full front

base-list : (h : Hierarchy) (g : ℕ)
    → filter (is_under h every g) (numbers_below (3 * length h.bases))
    ≡ filter (is_base h) (full_list h g)
base-list h g =
    ap (filter (is_under h every g)) (sym (base-numbers h))
    ∙ filter-swap (is_under h every g) (is_base h) (numbers_below (3 * face_count h))

full-bases : (h : Hierarchy) (g : ℕ)
    → listed (full_base_lists h) g ≡ filter (is_base h) (listed (full_lists h) g)
full-bases h g = grind (arith, common_steps, base-list, listed-by_node, listed-past)

-- ---- in the lists after a collapse

module _ (h : Hierarchy) (k : ℕ) (p : ℕ → Bool) (ls ms : List (List ℕ)) (same : (g : ℕ)
    → listed ms g ≡ filter p (listed ls g)) where
  rest-filtered : (g : ℕ) → rest_of h k ms g ≡ filter p (rest_of h k ls g)
  rest-filtered g =
      let out = is_not_between (3 * first_face h k) (3 * first_face h (k + 1)) in
      ap (filter out) (same g) ∙ filter-swap out p (listed ls g)

  collapsed-filtered : (g : ℕ) → collapsed_list h k ms g ≡ filter p (collapsed_list h k ls g)
  collapsed-filtered g =
      let t = t_of h k in
      let u = u_of h k in
      elim (cases_eq g (s_of h k)) [
        | inl is ↦
            collapsed-s h k ms g is
            ∙ ap (λ l. l ++ rest_of h k ms t) (rest-filtered u)
            ∙ ap (λ l. filter p (rest_of h k ls u) ++ l) (rest-filtered t)
            ∙ sym (filter-append p (rest_of h k ls u) (rest_of h k ls t))
            ∙ ap (filter p) (sym (collapsed-s h k ls g is))
        | inr differs ↦
            elim (cases_made h k g) [
              | inl made ↦ collapsed-child h k ms g differs made
                  ∙ ap (filter p) (sym (collapsed-child h k ls g differs made))
              | inr other ↦ collapsed-other h k ms g differs other ∙ rest-filtered g
                  ∙ ap (filter p) (sym (collapsed-other h k ls g differs other))
            ]
      ]

  pub lists-filtered : (g : ℕ) → listed (collapsed_lists h k ms) g
      ≡ filter p (listed (collapsed_lists h k ls) g)
  lists-filtered g = grind (arith, common_steps, collapsed-filtered, listed-by_node, listed-past)

-- ---- the calls: no list has any, and each corner of a base face is put in

pub filling-begins : (h : Hierarchy) (v : Lists) → v ≡ empty_lists (3 * face_count h) (node_count h)
    → Filling h (3 * length h.bases) (3 * length h.bases) v
filling-begins h v is = grind (arith, common_steps, bases-few, get_or-replicate, length-replicate)

-- Once the records from n on are collapsed, each list has the corners of base faces that it would
-- have among all.
pub record Gathered (h : Hierarchy) (n : ℕ) (v : Lists) : Type 0 where
  pub most : n ≤ record_count h
  pub heads : length v.lists ≡ node_count h
  pub each : (g : ℕ) → list_of v g ≡ filter (is_base h) (listed (opened_lists h n) g)

pub gathered-begins : (h : Hierarchy) (n : ℕ) (v : Lists) → n ≡ record_count h
    → v.lists ≡ full_base_lists h → Gathered h n v
gathered-begins h n v all is =
    grind (arith, common_steps, full-bases, length-by_node, opened-full, opened_lists)

-- the collapse of one record more; its first half leaves as many lists
pub first-heads : (h : Hierarchy) → HasShape h → (k : ℕ) → k < record_count h → (v a : Lists)
    → length v.lists ≡ node_count h →
    (s t : ℕ) → s ≡ s_of h k → t ≡ t_of h k → a ≡ with_moved v t s → length a.lists ≡ node_count h
first-heads h shape k l v a heads s t s_is t_is first =
    grind (arith, common_steps, after_move, children-differ, s_below)

module _ (h : Hierarchy) (shape : HasShape h) (k : ℕ) (k_lt : k < record_count h) (v a w : Lists)
    (old : Gathered h (suc k) v)
    (s t u : ℕ) (s_is : s ≡ s_of h k) (t_is : t ≡ t_of h k) (u_is : u ≡ u_of h k)
    (u_lt : u < node_count h)
    (first : a ≡ with_moved v t s) (second : w ≡ with_moved a u s) where
  abbrev ls : List (List ℕ)
  ls = opened_lists h (suc k)

  moved-is : w.lists ≡ collapsed_lists h k v.lists
  moved-is =
      let from = 3 * first_face h k in
      let until = 3 * first_face h (k + 1) in
      let nodes = shape_of_nodes h shape in
      let s_none =
      empty-s h (shape_is_forest h shape) (below (suc k)) (below-front h nodes (suc k)) k k_lt
      ls (opened-corners h shape (suc k) old.most) (lt-ltb k (suc k) (omega arith)) in
      let out : (g : ℕ) → list_of v g ≡ filter (is_not_between from until) (list_of v g) = λ g.
      sym (filter-all (is_not_between from until) (list_of v g) (λ e i.
      base-outside h k k_lt e
      (has_filter-parts (is_base h) (listed ls g) e (ap (λ l. has l e) (sym (old.each g))
      ∙ i)).0)) in
      collapse-gathered h shape k k_lt v v a w old.heads refl from until refl refl out
      (old.each (s_of h k) ∙ ap (filter (is_base h)) s_none)
      s t u s_is t_is u_is u_lt first second

  pub gathered-more : Gathered h k w
  gathered-more = grind (arith, common_steps, length-by_node, lists-filtered, moved-is, opened-next)

pub gathered-ends : (h : Hierarchy) → HasShape h → (n : ℕ) (v : Lists) → Gathered h n v → n ≡ 0
    → v.lists ≡ base_lists h
gathered-ends h shape n v all is =
    let ls = base_lists h in
    let right = base-right h shape in
    ext_get_or [] v.lists ls (all.heads ∙ sym right.nodes) (λ g l.
    all.each g ∙ ap (λ m. filter (is_base h) (listed (opened_lists h m) g)) is
    ∙ ap (λ k. filter (is_base h) (listed k g)) (opened-base h)
    ∙ filter-all (is_base h) (listed ls g) (λ e i. ((right.each g e).0 i).1))
