-- The node that each record splits, and the table of these.
use Rattle.std.proofs.Common.{◌≡◌, ℕ, ◌+◌, ◌<◌, List, [], ◌∷◌, ◌++◌, slice_index_or, inl, inr, ap}
use Rattle.std.proofs.lemmas.Grind.{common_steps}
use Rattle.std.proofs.Common.{◌∙◌, refl, arith, length-append}
use Rattle.std.proofs.lemmas.Bool.{cases_lt}
use Rattle.pm_forest.specs.Forest.{Hierarchy, node_count, record_at, record_count, s_of}
use Rattle.pm_forest.specs.Rules.{HasShape}
use Rattle.pm_forest.proofs.ShapeLaws.{shape_of_nodes}
use Rattle.pm_sides.specs.Tables.{AreSplitNodes}
use Rattle.pm_sides.proofs.InnerLaws.{entry_old, entry_new}

-- The node that a record splits.
pub s_is : (h : Hierarchy) (k : ℕ) → (record_at h k).s ≡ s_of h k
unfolding s_of
s_is h k = refl

-- The node that a record splits is one of the nodes.
pub s_below : (h : Hierarchy) → HasShape h → (k : ℕ) → k < record_count h → s_of h k < node_count h
s_below h shape k l = let older = (shape_of_nodes h shape).older k l in omega arith

-- One more entry.
pub splits_none : (h : Hierarchy) → AreSplitNodes h 0 []
splits_none h = record { len = refl; each = λ k l. absurd (omega arith) }

pub splits_go_on : (h : Hierarchy) (n x : ℕ) (xs : List ℕ) → AreSplitNodes h n xs → x ≡ s_of h n
    → AreSplitNodes h (n + 1) (xs ++ x ∷ [])
splits_go_on h n x xs so_far is = record {
  len = length-append xs (x ∷ []) ∙ ap (λ m. m + 1) so_far.len;
  each = λ k l. elim (cases_lt k n) [
    | inl a ↦ entry_old n x xs so_far.len k a ∙ so_far.each k a
    | inr a ↦ grind (arith, common_steps, entry_new, slice_index_or)
  ];
}
