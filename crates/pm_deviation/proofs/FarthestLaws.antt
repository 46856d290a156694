-- The walk up from a leaf through the nodes with few leaves, and the table once so many corners
-- have been looked at.
use Rattle.std.proofs.Common.{◌≡◌, ℕ, zero, suc, ◌+◌, ◌<◌, ◌≤◌, max, Bool, true, false, cond}
use Rattle.std.proofs.Common.{replicate, List, [], ◌∷◌, ◌++◌, map, length, get_or, set, Option}
use Rattle.std.proofs.Common.{None, Some, IfSome}
use Rattle.std.proofs.Common.{inl, inr, refl, sym, ap, ◌∙◌, subst, arith, ◌≢◌}
use Rattle.std.proofs.lemmas.Bool.{false≢true}
use Rattle.std.proofs.lemmas.Grind.{common_steps}
use Rattle.std.proofs.lemmas.Bool.{cases_Bool, cases_lt, cases_eq, leb-true, cond-true, cond-false}
use Rattle.std.proofs.Math.ListN.{length-set}
use Rattle.std.proofs.lemmas.List.{get_or-set_same, get_or-set_other, get_or-replicate}
use Rattle.std.proofs.lemmas.List.{length-replicate, length-append, get_or_default}
use Rattle.std.specs.Option.{option_and_then}
use Rattle.std.specs.List.{filter, range_with_len}
use Rattle.pm_base.specs.Sides.{face_of}
use Rattle.pm_base.proofs.Search.{option_cases}
use Rattle.pm_forest.specs.Forest.{Hierarchy, node_count, leaf_count, s_of, holds, Holds}
use Rattle.pm_forest.specs.Forest.{maker_of}
use Rattle.pm_forest.specs.Faces.{from_leaf}
use Rattle.pm_forest.specs.Rules.{HasShape}
use Rattle.pm_forest.specs.Tables.{leaf_node_of}
use Rattle.pm_forest.proofs.Nodes.{maker_of-makes, maker_of-none, maker_of-lt}
use Rattle.pm_forest.specs.Fronts.{every}
use Rattle.pm_forest.proofs.Ancestors.{holds-ancestor_of}
use Rattle.pm_forest.proofs.HierarchyLaws.{leaf_node-alone, leaf_node-lt}
use Rattle.pm_forest.proofs.ShapeLaws.{shape_of_nodes}
use Rattle.pm_bounds.specs.Bounds.{greatest}
use Rattle.pm_bounds.specs.Tables.{AreAtMost}
use Rattle.pm_bounds.proofs.TableLaws.{kept}
use Rattle.pm_deviation.specs.declared.farthest.Rung.{Rung}
use Rattle.pm_deviation.specs.declared.unit_box.UnitBox.{UnitBox}
use Rattle.pm_deviation.specs.Farthest.{leaves_under, has_few_leaves, few_above, AreRaised}
use Rattle.pm_deviation.specs.Farthest.{face_box, plane_through, plane_distance, farthest_of}
use Rattle.pm_deviation.specs.Farthest.{AreFarthestOf, no_rung, IsRung, AreRungs}
use Rattle.pm_deviation.proofs.NodeTables.{pushed}
use Rattle.pm_deviation.proofs.ChainLaws.{one_root, parent_holds, highest, below_parent, narrower}

-- The number past that of the node at which a walk stands; 0 at its end.
abbrev pub top_of : Option ℕ → ℕ
top_of None = 0
top_of (Some n) = n + 1

-- A walk up from leaf x stands at a node with few leaves above the leaf, or at its end; it has
-- raised the numbers of the nodes above the leaf that it has passed, and no others.
pub record WalksUp (h : Hierarchy) (x : ℕ) (own : ℕ → ℕ) (old now : List ℕ) (at : Option ℕ) : Type 0
  where
    pub len : length now ≡ node_count h
    pub small : AreAtMost 113509 now
    pub node : IfSome at (λ n. n < node_count h)
    pub held : IfSome at (λ n. Holds h n x)
    pub few : IfSome at (λ n. has_few_leaves h n ≡ true)
    pub passed : (v : ℕ) → v < node_count h → has_few_leaves h v ≡ true → Holds h v x
        → top_of at ≤ v → get_or now v 0 ≡ max (get_or old v 0) (own v)
    pub ahead : (v : ℕ) → v < node_count h → has_few_leaves h v ≡ true → v < top_of at
        → get_or now v 0 ≡ get_or old v 0
    pub others : (v : ℕ) → v < node_count h → has_few_leaves h v ≡ true → holds h v x ≡ false
        → get_or now v 0 ≡ get_or old v 0

few_is : (h : Hierarchy) (v : ℕ) → has_few_leaves h v ≡ true → leaves_under h v ≤ 64
unfolding has_few_leaves
few_is h v e = leb-true (leaves_under h v) 64 e

few_from : (h : Hierarchy) (v : ℕ) → leaves_under h v ≤ 64 → has_few_leaves h v ≡ true
unfolding has_few_leaves
few_from h v l = grind (arith, common_steps)

-- A node where it has few leaves.
abbrev few_at : Hierarchy → ℕ → Option ℕ
few_at h p = cond (has_few_leaves h p) (Some p) None

below_top : (at : Option ℕ) (v : ℕ) {n : ℕ} → v < top_of at → IfSome at (λ p. p < n) → v < n
below_top None v l low = absurd (omega arith)
below_top (Some p) v l low = omega arith

module _ (h : Hierarchy) (shape : HasShape h) (x : ℕ) (x_lt : x < leaf_count h) (own : ℕ → ℕ)
    (old : List ℕ) where
  one_leaf : leaves_under h (leaf_node_of h x) ≡ 1
  one_leaf = rw (leaf_node-alone h shape x x_lt) (omega arith)

  own_held : Holds h (leaf_node_of h x) x
  own_held = holds-ancestor_of h (shape_of_nodes h shape) every x x_lt

  pub walk_start : length old ≡ node_count h → AreAtMost 113509 old
      → WalksUp h x own old old (Some (leaf_node_of h x))
  walk_start len small = record {
    len = len;
    small = small;
    node = leaf_node-lt h shape x x_lt;
    held = own_held;
    few = few_from h (leaf_node_of h x) (omega (arith, one_leaf));
    passed = λ v l few held past.
        (let low = highest h (shape_of_nodes h shape) x x_lt v l held in absurd (omega arith));
    ahead = λ v l few before. refl;
    others = λ v l few other. refl;
  }

  pub walk_end : (now : List ℕ) → WalksUp h x own old now None → AreRaised h x own old now
  walk_end now w v l few = elim (cases_Bool (holds h v x)) [
    | inl e ↦ w.passed v l few e (omega arith) ∙ sym (cond-true _ _ _ e)
    | inr e ↦ w.others v l few e ∙ sym (cond-false _ _ _ e)
  ]

  -- What a walk does at node n, and where it goes from there: no other node with few leaves comes
  -- before the next.
  module _ (now : List ℕ) (n : ℕ) (w : WalksUp h x own old now (Some n)) (short : own n ≤ 113509)
    where
      abbrev raised : List ℕ
      raised = set now n (max (get_or now n 0) (own n))

      inside : n < length now
      inside = (let len = w.len in let l = w.node in omega arith)

      at_n : get_or raised n 0 ≡ max (get_or old n 0) (own n)
      at_n =
          get_or-set_same now n (max (get_or now n 0) (own n)) 0 inside
          ∙ ap (λ m. max m (own n)) (w.ahead n w.node w.few (omega arith))

      elsewhere : (v : ℕ) → v ≢ n → get_or raised v 0 ≡ get_or now v 0
      elsewhere v other = get_or-set_other now n v (max (get_or now n 0) (own n)) 0 other

      moves : (at : Option ℕ) → IfSome at (λ p. p < n) → IfSome at (λ p. p < node_count h)
          → IfSome at (λ p. Holds h p x) → IfSome at (λ p. has_few_leaves h p ≡ true)
          → ((v : ℕ) → v < node_count h → has_few_leaves h v ≡ true → Holds h v x → v < n
          → v < top_of at)
          → WalksUp h x own old raised at
      moves at lower node held few between = record {
        len = length-set now n (max (get_or now n 0) (own n)) ∙ w.len;
        small = kept 0 (λ m. m ≤ 113509) now n (max (get_or now n 0) (own n)) inside w.small
            (let at = w.small n inside in omega arith);
        node = node;
        held = held;
        few = few;
        passed = λ v l f e past. elim (cases_lt v n) [
          | inl a ↦ (let b = between v l f e a in absurd (omega arith))
          | inr a ↦ elim (cases_eq v n) [
            | inl same ↦ subst (λ u. get_or raised u 0 ≡ max (get_or old u 0) (own u)) (sym same)
                at_n
            | inr other ↦ elsewhere v other ∙ w.passed v l f e (omega arith)
          ]
        ];
        ahead = λ v l f before.
            (let low : v < n = below_top at v before lower in
            elsewhere v (omega arith) ∙ w.ahead v l f (omega arith));
        others = λ v l f e.
            (let other : v ≢ n =
            λ same. false≢true (sym e ∙ (subst (λ u. Holds h u x) (sym same) w.held)) in
            elsewhere v other ∙ w.others v l f e);
      }

      ends : few_above h n ≡ None
          → ((v : ℕ) → v < node_count h → has_few_leaves h v ≡ true → Holds h v x → v < n → ⊥)
          → WalksUp h x own old raised (few_above h n)
      ends none nothing =
          subst (WalksUp h x own old raised) (sym none)
          (moves None tt tt tt tt (λ v l f e a. absurd (nothing v l f e a)))

      pub walk_on : WalksUp h x own old raised (few_above h n)
      walk_on = elim (option_cases (maker_of h n)) [
        | inl none ↦
            ends (ap (option_and_then (λ k. few_at h (s_of h k))) none)
            (λ v l f e a.
            (let root = maker_of-none h n none in
            let same = one_root h (shape_of_nodes h shape) x x_lt v n (omega arith) root e w.held in
            omega arith))
        | inr (k, made) ↦
            let nodes = shape_of_nodes h shape in
            let k_lt = maker_of-lt h k n w.node made in
            let makes = maker_of-makes h k n made in
            let up = parent_holds h nodes x x_lt k n k_lt makes w.held in
            let older = nodes.older k k_lt in
            let low : s_of h k < n = elim makes [ inl g ↦ omega arith | inr g ↦ omega arith ] in
            let next : few_above h n ≡ few_at h (s_of h k) =
            ap (option_and_then (λ k. few_at h (s_of h k))) made in
            elim (cases_Bool (has_few_leaves h (s_of h k))) [
              | inl few ↦
                  subst (WalksUp h x own old raised) (sym (next ∙ cond-true _ _ _ few))
                  (moves (Some (s_of h k)) low (omega arith) up few
                  (λ v l f e a. (let p =
                  below_parent h nodes x x_lt k v n k_lt l makes w.held e a in omega arith)))
              | inr many ↦
                  ends (next ∙ cond-false _ _ _ many)
                  (λ v l f e a.
                  (let p = below_parent h nodes x x_lt k v n k_lt l makes w.held e a in
                  let q = narrower h nodes x x_lt v (s_of h k) p (omega arith) e up in
                  let r = few_is h v f in
                  false≢true (sym many ∙ few_from h (s_of h k) (omega arith))))
            ]
      ]

-- So the walk ends.
pub few_above-lower : (h : Hierarchy) → HasShape h → (n : ℕ) → n < node_count h
    → top_of (few_above h n) ≤ n
few_above-lower h shape n l = elim (option_cases (maker_of h n)) [
  | inl none ↦ (let is = ap (option_and_then (λ k. few_at h (s_of h k))) none in
      rw is (omega arith))
  | inr (k, made) ↦
      let older = (shape_of_nodes h shape).older k (maker_of-lt h k n l made) in
      let low : s_of h k < n =
      elim (maker_of-makes h k n made) [ inl g ↦ omega arith | inr g ↦ omega arith ] in
      let is = ap (option_and_then (λ k. few_at h (s_of h k))) made in
      elim (cases_Bool (has_few_leaves h (s_of h k))) [
        | inl few ↦ (rw (is, few) (omega arith))
        | inr many ↦ (rw (is, many) (omega arith))
      ]
]

-- The rungs while nodes are gone through, and one of them.
pub rungs_none : (h : Hierarchy) (rs : List Rung) → rs ≡ [] → AreRungs h 0 rs
rungs_none h rs is = record { len = ap length is; each = λ v l. absurd (omega arith) }

pub rungs_more : (h : Hierarchy) (n : ℕ) (old new : List Rung) (r : Rung) → AreRungs h n old
    → new ≡ old ++ r ∷ [] → IsRung h n r → AreRungs h (n + 1) new
rungs_more h n old new r was is one = record {
  len = ap length is ∙ length-append old (r ∷ []) ∙ ap (λ m. m + 1) was.len;
  each = subst (λ (rs : List Rung). (v : ℕ) → v < n + 1 → IsRung h v (get_or rs v no_rung))
      (sym is) (pushed no_rung (λ v x. IsRung h v x) n old r was.len was.each one);
}

pub rung_of : (h : Hierarchy) (rs : List Rung) → AreRungs h (node_count h) rs → (v : ℕ)
    → v < node_count h → (d : Rung) → IsRung h v (get_or rs v d)
rung_of h rs are v l d =
    (let len = are.len in
    subst (IsRung h v) (get_or_default rs v no_rung d (omega arith)) (are.each v l))

-- The greatest of the numbers of which a test holds, where one more number comes.
greatest_more : (g : ℕ → ℕ) (p : ℕ → Bool) (ns : List ℕ) (n : ℕ)
    → greatest (map g (filter p (ns ++ n ∷ [])))
    ≡ cond (p n) (max (greatest (map g (filter p ns))) (g n)) (greatest (map g (filter p ns)))
greatest_more g p [] n = grind (arith, common_steps)
greatest_more g p (m ∷ ns) n = grind (arith, common_steps, greatest_more g p ns n)

range_more : (a n j : ℕ) → a + n ≡ j
    → range_with_len a (suc n) ≡ range_with_len a n ++ j ∷ []
range_more a zero j is = ap (λ k. k ∷ []) (omega arith)
range_more a (suc n) j is = ap (λ ks. a ∷ ks) (range_more (a + 1) n j (omega arith))

farthest_more : (h : Hierarchy) (v n : ℕ)
    → farthest_of h v (n + 1)
    ≡ cond (holds h v (from_leaf h n)) (max (farthest_of h v n) (plane_distance h v n))
    (farthest_of h v n)
unfolding farthest_of
farthest_more h v n =
    let next : n + 1 ≡ suc n = omega arith in
    ap (λ ks. greatest (map (plane_distance h v) (filter (λ e. holds h v (from_leaf h e)) ks)))
    (ap (range_with_len 0) next ∙ range_more 0 n n (omega arith))
    ∙ greatest_more (plane_distance h v) (λ e. holds h v (from_leaf h e)) (range_with_len 0 n) n

pub looked_none : (h : Hierarchy) (table : List ℕ) → table ≡ replicate (node_count h) 0
    → AreFarthestOf h 0 table
unfolding farthest_of
looked_none h table are = record {
  nodes = ap length are ∙ length-replicate (node_count h) 0;
  each = λ v l few. ap (λ t. get_or t v 0) are ∙ get_or-replicate (node_count h) v 0 0 l;
  small = λ v l.
      (let len : length table ≡ node_count h = ap length are ∙ length-replicate (node_count h) 0 in
      let below : v < node_count h = omega arith in
      let is = ap (λ t. get_or t v 0) are ∙ get_or-replicate (node_count h) v 0 0 below in
      omega arith);
}

pub looked_more : (h : Hierarchy) (n x : ℕ) (b : UnitBox) (old new : List ℕ)
    → x ≡ from_leaf h n → b ≡ face_box h (face_of n) → AreFarthestOf h n old
    → length new ≡ node_count h → AreAtMost 113509 new → AreRaised h x (plane_through h b x) old new
    → AreFarthestOf h (n + 1) new
looked_more h n x b old new leaf box was len small raised = record {
  nodes = len;
  small = small;
  each = λ v l few.
      (let before = was.each v l few in
      let now = raised v l few in
      let one = farthest_more h v n in
      cc);
}
