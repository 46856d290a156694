-- The leaves of nodes in a forest that grows.
use Rattle.std.proofs.Common.{◌≡◌, ℕ, zero, suc, ◌+◌, ◌*◌, ◌<◌, ◌≤◌, List, ◌∷◌, [], Some, None}
use Rattle.std.proofs.Common.{Option, get_or, length, is_some, ap, ◌∙◌, arith}
use Rattle.std.proofs.lemmas.Grind.{common_steps}
use Rattle.std.proofs.lemmas.Bool.{eq-eqb, ne_eqb}
use Rattle.std.proofs.lemmas.List.{get_or_read}
use Rattle.pm_base.specs.Counts.{one_if}
use Rattle.pm_forest.specs.declared.parts.Record.{Record}
use Rattle.pm_forest.specs.Forest.{Hierarchy, widths, node_count, record_count, s_of, t_of, u_of}
use Rattle.pm_forest.specs.Forest.{root_interval, interval_after, interval_of, HasForestShape}
use Rattle.pm_forest.specs.Rules.{with_record}
use Rattle.pm_forest.specs.Tables.{Grown, Parts, IsGrowing, grown, all_of, units_in}
use Rattle.pm_forest.proofs.Nodes.{interval-kept, interval_of-t, interval_of-u}
use Rattle.pm_forest.proofs.Prefix.{record_count-with_record, s_of-with_record_last}
use Rattle.pm_forest.proofs.Prefix.{record_at-with_record_last}
use Rattle.pm_forest.proofs.LeafNodes.{interval_of-le}
use Rattle.pm_forest.proofs.GrowingLaws.{seen}

root_in_order : (ws : List ℕ) (start v : ℕ)
    → (root_interval ws start v).from ≤ (root_interval ws start v).until
root_in_order [] start v = omega arith
root_in_order (w ∷ ws) start zero = omega arith
root_in_order (w ∷ ws) start (suc v) = root_in_order ws (start + w) v

after_in_order : (h : Hierarchy) → HasForestShape h → (k v : ℕ) → k ≤ record_count h
    → v < t_of h k → (interval_after h k v).from ≤ (interval_after h k v).until
unfolding interval_after
after_in_order h shape zero v m l = root_in_order (widths h) 0 v
after_in_order h shape (suc k) v m l =
    grind (
      arith,
      common_steps,
      eq-eqb v (t_of h k),
      eq-eqb v (u_of h k),
      interval-kept h k (record_count h) (s_of h k),
      ne_eqb v (t_of h k),
      ne_eqb v (u_of h k),
      shape.width k,
      after_in_order h shape k v,
    )

-- the leaves of a node stand in order
pub in_order : (h : Hierarchy) → HasForestShape h → (v : ℕ) → v < node_count h
    → (interval_of h v).from ≤ (interval_of h v).until
in_order h shape v l = after_in_order h shape (record_count h) v (omega arith) l

-- how many nodes there are, with those of the coming record
all_nodes : (h : Hierarchy) (coming : Option Record)
    → node_count (all_of h coming) ≡ length h.roots + 2 * (record_count h + one_if (is_some coming))
all_nodes h None = omega arith
all_nodes h (Some r) = omega (arith, record_count-with_record h r)

-- Record r, which is coming, parts the leaves of its node before this one.
pub record CutsBefore (g : Grown) (r : Record) (leaf : ℕ) : Type 0 where
  pub few : leaf < 1048576
  pub first : interval_of (grown g) (t_of g.h (record_count g.h))
      ≡ record { from = (interval_of (grown g) r.s).from; until = leaf }
  pub second : interval_of (grown g) (u_of g.h (record_count g.h))
      ≡ record { from = leaf; until = (interval_of (grown g) r.s).until }

module _ {p : Parts} (s : IsGrowing p) where
  -- the leaves of a node, as the table has them
  leaves_read : (v : ℕ) (at : ℕ × ℕ) → v < node_count (units_in p) → at ≡ get_or p.intervals v at →
      (at.0 ≡ (interval_of (units_in p) v).from) × (at.1 ≡ (interval_of (units_in p) v).until)
  leaves_read v at l read =
      let counted = all_nodes (seen p).h p.coming in
      let within : v < length p.intervals = omega arith in
      let is = get_or_read p.intervals v at within read (0, 0) in
      let spans = s.tables.spans v l in
      (ap (λ x. x.0) is ∙ spans.0, ap (λ x. x.1) is ∙ spans.1)

  -- they stand in order
  pub leaves_in_order : (g : Grown) → seen p ≡ g → (v : ℕ) (at : ℕ × ℕ) → v < node_count (grown g)
      → at ≡ get_or p.intervals v at → at.0 ≤ at.1
  leaves_in_order g view v at l read =
      let there = rw (← view) at l in
      let is = leaves_read v at there read in
      let order = in_order (units_in p) s.shape v there in
      omega arith

  -- and the children of the coming record part those of its node
  pub leaves_cut : (g : Grown) → seen p ≡ g → (r : Record) (at : ℕ × ℕ) → g.coming ≡ Some r
      → r.s < node_count (grown g) → at ≡ get_or p.intervals r.s at
      → CutsBefore g r (at.0 + r.width)
  leaves_cut g view r at coming l read =
      let h = (seen p).h in
      let all = with_record h r in
      let is : p.coming ≡ Some r = rw (← view) at coming in
      let there : r.s < node_count (units_in p) = rw (← view) at l in
      let shape : HasForestShape all = rw is at s.shape in
      let start : at.0 ≡ (interval_of all r.s).from = rw is at (leaves_read r.s at there read).0 in
      let node = s_of-with_record_last h r in
      let last = record_at-with_record_last h r in
      let k = record_count h in
      let k_lt : k < record_count all = omega (arith, record_count-with_record h r) in
      let fits = rw (node, last) at ((shape.width k k_lt).1) in
      let most = interval_of-le all shape r.s (rw is at there) in
      let t = rw (node, last) at (interval_of-t all shape k k_lt) in
      let u = rw (node, last) at (interval_of-u all shape k k_lt) in
      rw (← view) (record {
        few = omega arith;
        first = rw (is, start) t;
        second = rw (is, start) u;
      })
