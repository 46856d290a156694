-- The table of balls by record, which has copies of the balls of the nodes that the records split.
use Rattle.std.proofs.Common.{◌≡◌, ◌≢◌, ℕ, suc, ◌<◌, ◌≤◌, List, length, map, get_or, set}
use Rattle.std.proofs.lemmas.Grind.{common_steps}
use Rattle.std.proofs.Common.{length-set, inl, inr, sym, ap, ◌∙◌, arith}
use Rattle.std.proofs.lemmas.Bool.{cases_eq}
use Rattle.std.proofs.lemmas.List.{get_or-map, get_or-set_same, get_or-set_other}
use Rattle.pm_base.specs.Place.{origin}
use Rattle.pm_forest.specs.Forest.{Hierarchy, record_count, node_count, s_of}
use Rattle.pm_forest.specs.Rules.{HasShape}
use Rattle.pm_forest.proofs.ShapeLaws.{shape_of_nodes}
use Rattle.pm_bounds.specs.declared.balls.Ball.{Ball}
use Rattle.pm_bounds.specs.Bounds.{bare_at}
use Rattle.pm_bounds.proofs.Nodes.{split_node}

-- Each record from k on has the ball of the node that it splits.
pub record AreCopied (h : Hierarchy) (balls splits : List Ball) (k : ℕ) : Type 0 where
  pub len : length splits ≡ record_count h
  pub each : (j : ℕ) → k ≤ j → j < record_count h
      → get_or splits j (bare_at origin) ≡ get_or balls (s_of h j) (bare_at origin)

-- before any record
pub copied_start : (h : Hierarchy) (balls splits : List Ball) → length splits ≡ record_count h
    → AreCopied h balls splits (record_count h)
copied_start h balls splits len = record { len = len; each = λ j low high. absurd (omega arith) }

module _ (h : Hierarchy) (shape : HasShape h) (balls splits : List Ball) (balls_len : length balls
    ≡ node_count h) where
  -- one record more, whose ball is written by node and by record
  pub copied_step : (k : ℕ) (b : Ball) → k < record_count h → AreCopied h balls splits (suc k)
      → AreCopied h (set balls (s_of h k) b) (set splits k b) k
  copied_step k b l was =
      let none = bare_at origin in
      let s = s_of h k in
      let node = split_node h shape k l in
      let len = was.len in
      record {
        len = length-set splits k b ∙ len;
        each = λ j low high. elim (cases_eq j k) [
          | inl same ↦ grind (arith, common_steps, get_or, get_or-set_same)
          | inr other ↦
              let apart : s_of h j ≢ s =
              λ e. (shape_of_nodes h shape).once k j (omega (arith, other)) high (sym e) in
              get_or-set_other splits k j b none other ∙ was.each j (omega (arith, other)) high
              ∙ sym (get_or-set_other balls s (s_of h j) b none apart)
        ];
      }

  -- What is read of a record's ball stands in the node's list.
  pub copied_reads : {A : Type 0} (f : Ball → A) (d : A) → AreCopied h balls splits 0 → (k : ℕ)
      → k < record_count h → f (get_or splits k (bare_at origin))
      ≡ get_or (map f balls) (s_of h k) d
  copied_reads f d was k l =
      let node = split_node h shape k l in
      ap f (was.each k (omega arith) l)
      ∙ sym (get_or-map f balls (s_of h k) (bare_at origin) d (omega arith))
