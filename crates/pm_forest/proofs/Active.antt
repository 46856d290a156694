-- The test on a node decides whether the node is active.
use Rattle.std.proofs.Common.{◌≡◌, ℕ, ◌<◌, Bool, true, not, arith}
use Rattle.std.proofs.lemmas.Grind.{common_steps}
use Rattle.std.proofs.lemmas.Bool.{and_parts, and_from, not-true, not_from_false}
use Rattle.pm_base.proofs.Search.{option_cases}
use Rattle.pm_forest.specs.Forest.{Hierarchy, node_count, maker_of, splitter_of, HasForestShape}
use Rattle.pm_forest.specs.Fronts.{IsActive, made_in, split_in, is_active}
use Rattle.pm_forest.proofs.Nodes.{maker_of-makes, maker_of-from, maker_of-none, maker_of-root}
use Rattle.pm_forest.proofs.Nodes.{splitter_of-splits, splitter_of-s}

module _ (h : Hierarchy) (shape : HasForestShape h) where
  pub is_active-true : (T : ℕ → Bool) (v : ℕ) → v < node_count h → is_active h T v ≡ true
      → IsActive h T v
  unfolding is_active
  is_active-true T v l e =
      grind (
        arith,
        common_steps,
        and_parts,
        maker_of-makes,
        maker_of-none,
        not-true,
        option_cases,
        splitter_of-s,
      )

  pub is_active-from : (T : ℕ → Bool) (v : ℕ) → IsActive h T v → is_active h T v ≡ true
  unfolding is_active
  is_active-from T v active =
      grind (
        arith,
        common_steps,
        not_from_false,
        and_from (made_in T (maker_of h v)) (not (split_in T (splitter_of h v))),
        maker_of-from h,
        maker_of-root h v,
        option_cases (splitter_of h v),
        splitter_of-splits h,
      )
