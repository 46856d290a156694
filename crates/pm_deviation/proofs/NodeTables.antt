-- Tables by node that are found from the leaves up, and lists that grow by one item.
use Rattle.std.proofs.Common.{◌≡◌, ℕ, suc, ◌+◌, ◌<◌, ◌≤◌, List, [], ◌∷◌, ◌++◌, length, get_or, set}
use Rattle.std.proofs.lemmas.Grind.{common_steps}
use Rattle.std.proofs.Common.{length-set, inl, inr, sym, subst, ◌∙◌, arith}
use Rattle.std.specs.Prelude.{None}
use Rattle.std.proofs.lemmas.Bool.{cases_eq}
use Rattle.std.proofs.lemmas.List.{get_or-set_same, get_or-set_other, get_or_push}
use Rattle.std.proofs.lemmas.List.{get_or_append_left}
use Rattle.pm_base.proofs.Search.{option_cases}
use Rattle.pm_forest.specs.Forest.{Hierarchy, record_count, node_count, leaf_count, s_of, t_of}
use Rattle.pm_forest.specs.Forest.{splitter_of}
use Rattle.pm_forest.specs.Rules.{HasShape}
use Rattle.pm_forest.specs.Tables.{leaf_node_of}
use Rattle.pm_forest.proofs.HierarchyLaws.{leaf_node-lt}
use Rattle.pm_forest.proofs.Nodes.{splitter_of-splits}
use Rattle.pm_forest.proofs.ShapeLaws.{shape_of_nodes}
use Rattle.pm_bounds.proofs.GrownLaws.{DoneFrom, later}
use Rattle.pm_bounds.proofs.Nodes.{split_node, leaf_node-apart, has_leaf}
use Rattle.pm_deviation.specs.Tables.{AreOfNodes}

-- what holds of each item, and of one more put last
pub pushed : {A : Type 0} (d : A) (P : ℕ → A → Type 0) (n : ℕ) (old : List A) (x : A)
    → length old ≡ n → ((i : ℕ) → i < n → P i (get_or old i d)) → P n x →
    (i : ℕ) → i < n + 1 → P i (get_or (old ++ x ∷ []) i d)
pushed d P n old x len all new i l = elim (cases_eq i n) [
  | inl same ↦
      subst (λ j. P j (get_or (old ++ x ∷ []) j d)) (sym same)
      (subst (P n) (sym (get_or_push old x d n len)) new)
  | inr other ↦ subst (P i) (sym (get_or_append_left old (x ∷ []) d i (omega (arith, other, len))))
      (all i (omega (arith, other)))
]

-- The table of a number of each node once the records from k on have been gone through.
pub record AreFoundFrom {A : Type 0} (h : Hierarchy) (d : A) (value : ℕ → A) (table : List A)
    (k : ℕ) : Type 0 where
  pub len : length table ≡ node_count h
  pub each : (v : ℕ) → v < node_count h → DoneFrom h k v → get_or table v d ≡ value v

module _ {A : Type 0} (h : Hierarchy) (shape : HasShape h) (d : A) (value : ℕ → A) where
  -- before any record
  pub found_start : (table : List A) → length table ≡ node_count h
      → ((v : ℕ) → v < node_count h → splitter_of h v ≡ None → get_or table v d ≡ value v) →
      AreFoundFrom h d value table (record_count h)
  found_start table len own = record {
    len = len;
    each = λ v l done. elim (option_cases (splitter_of h v)) [
      | inl none ↦ own v l none
      | inr (j, e) ↦ (let p = (splitter_of-splits h j v e).1 in let q = done j e in
          absurd (omega arith))
    ];
  }

  -- the children of the next record have theirs
  pub found_child : (table : List A) (k c : ℕ) → k < record_count h → t_of h k ≤ c
      → c < node_count h → AreFoundFrom h d value table (suc k) → get_or table c d ≡ value c
  found_child table k c l above below was =
      was.each c below (λ j e. later h (shape_of_nodes h shape) k j c l above e)

  -- one record more
  pub found_step : (old : List A) (k : ℕ) (x : A) → k < record_count h
      → AreFoundFrom h d value old (suc k) → x ≡ value (s_of h k)
      → AreFoundFrom h d value (set old (s_of h k) x) k
  found_step old k x l was is =
      let node = split_node h shape k l in
      let len = was.len in
      let inside : s_of h k < length old = omega arith in
      record {
        len = length-set old (s_of h k) x ∙ len;
        each = λ v m done. elim (cases_eq v (s_of h k)) [
          | inl same ↦
              subst (λ w. get_or (set old (s_of h k) x) w d ≡ value w) (sym same)
              (get_or-set_same old (s_of h k) x d inside ∙ is)
          | inr other ↦
              let still : DoneFrom h (suc k) v = grind (arith, common_steps, splitter_of-splits) in
              get_or-set_other old (s_of h k) v x d other ∙ was.each v m still
        ];
      }

  -- all records
  pub found_all : (table : List A) → AreFoundFrom h d value table 0 → AreOfNodes h d value table
  found_all table was = record { nodes = was.len; each = λ v l. was.each v l (λ j e. omega arith) }

-- The nodes of leaves: what those of the first leaves have, when the next leaf's node is given its
-- own.
module _ {A : Type 0} (h : Hierarchy) (shape : HasShape h) (d : A) (value : ℕ → A) where
  pub given_more : (n : ℕ) (old : List A) (x : A) → n < leaf_count h → length old ≡ node_count h →
      ((l : ℕ) → l < n → get_or old (leaf_node_of h l) d ≡ value (leaf_node_of h l))
      → x ≡ value (leaf_node_of h n) →
      (l : ℕ) → l < n + 1 → get_or (set old (leaf_node_of h n) x) (leaf_node_of h l) d
      ≡ value (leaf_node_of h l)
  given_more n old x below len was is l m =
      let at = leaf_node_of h n in
      elim (cases_eq l n) [
        | inl same ↦ grind (arith, common_steps, get_or, get_or-set_same, leaf_node-lt)
        | inr other ↦
            get_or-set_other old at (leaf_node_of h l) x d
            (leaf_node-apart h shape l n (omega arith) below other)
            ∙ was l (omega (arith, other))
      ]

  pub given_all : (n : ℕ) (table : List A) → n ≡ leaf_count h
      → ((l : ℕ) → l < n → get_or table (leaf_node_of h l) d ≡ value (leaf_node_of h l)) →
      (v : ℕ) → v < node_count h → splitter_of h v ≡ None → get_or table v d ≡ value v
  given_all n table all was v m none =
      let (l, below, is) = has_leaf h shape v m none in
      subst (λ w. get_or table w d ≡ value w) is (was l (omega arith))
