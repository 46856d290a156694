-- The tables of a run's numbers, one entry more at a time.
use Rattle.std.proofs.Common.{suc, ◌≡◌, ℕ, ◌+◌, ◌-◌, ◌*◌, ◌<◌, ◌≤◌, List, length}
use Rattle.std.proofs.lemmas.Grind.{common_steps}
use Rattle.std.proofs.Common.{get_or, inl, inr, ap, ◌∙◌, subst}
use Rattle.std.proofs.Common.{arith, get_or-set_same, get_or-set_other}
use Rattle.std.proofs.Math.ListN.{set}
use Rattle.std.proofs.lemmas.Bool.{cases_eq, cases_lt, eq-eqb, ne_eqb}
use Rattle.std.proofs.lemmas.List.{length-set, get_or_read}
use Rattle.pm_base.specs.declared.log.Collapse.{Collapse}
use Rattle.pm_number.specs.Stages.{Run, steps, entry_at, IsMerging}
use Rattle.pm_number.specs.Numbering.{place_in, left_over}
use Rattle.pm_number.specs.Numbering.{width_after, width_number, node_number}
use Rattle.pm_number.specs.Tables.{IsSmallRun, all_vertices, HasNumbers, RootsHave}
use Rattle.pm_number.proofs.Positions.{at_place}
use Rattle.pm_number.proofs.RunLaws.{ends_given}
use Rattle.pm_number.proofs.NodeNumbers.{stays_left, as_t, as_u, node_of, node-t, node-u}
use Rattle.pm_number.proofs.LeafNumbers.{width-kept, width-step, at_end}
use Rattle.pm_number.proofs.RunCounts.{node-count, leaf-number-count}
use Rattle.pm_number.proofs.Fitting.{root_vertex}

-- a write of the right number keeps right numbers, and makes one
pub set_keeps : (table : List ℕ) (number : ℕ → ℕ) (w x v : ℕ) → x ≡ number w
    → get_or table v 0 ≡ number v → w < length table → get_or (set table w x) v 0 ≡ number v
set_keeps table number w x v is has l =
    grind (arith, common_steps, get_or-set_other, get_or-set_same)

pub set_makes : (table : List ℕ) (number : ℕ → ℕ) (w x : ℕ) → x ≡ number w → w < length table
    → get_or (set table w x) w 0 ≡ number w
set_makes table number w x is l = get_or-set_same table w x 0 l ∙ is

-- Widths

pub widths_start : (r : Run) (table : List ℕ) (n : ℕ) → length table ≡ n
    → ((k : ℕ) → k < n → get_or table k 0 ≡ 1) → HasNumbers table (width_after r 0) n
unfolding width_after
widths_start r table n len each = record { len = len; each = each }

-- what is read of a table is the number
pub number_read : {table : List ℕ} {number : ℕ → ℕ} {n : ℕ} → HasNumbers table number n
    → (v x : ℕ) → v < n → x ≡ get_or table v x → x ≡ number v
number_read {table} has v x l is =
    let len = has.len in
    get_or_read table v x (omega arith) is 0 ∙ has.each v l

pub widths_more : {r : Run} {table : List ℕ} {i : ℕ} {c : Collapse} {a b : ℕ} → IsMerging r
    → c ≡ entry_at r i → i < steps r → HasNumbers table (width_after r i) (all_vertices r)
    → a ≡ get_or table c.t a → b ≡ get_or table c.u b
    → HasNumbers (set table c.s (a + b)) (width_after r (i + 1)) (all_vertices r)
unfolding width_after
widths_more {r} {table} {i} {c} {a} {b} run is l has a_is b_is =
    let next : i + 1 ≡ suc i = omega arith in
    let len = has.len in
    let given = ends_given r run i l in
    let named = run.named i l in
    let first : a ≡ width_after r i c.t =
    number_read has c.t a (rw is (let p = given.0 in omega arith)) a_is in
    let second : b ≡ width_after r i c.u =
    number_read has c.u b (rw is (let p = given.1 in omega arith)) b_is in
    let both : a + b ≡ width_after r i c.t + width_after r i c.u = omega arith in
    let inside : c.s < length table = rw is (omega arith) in
    record {
      len = length-set table c.s (a + b) ∙ len;
      each = λ v l. rw (next, ← is) (elim (cases_eq v c.s) [
        | inl here ↦
            (rw (eq-eqb v c.s here, here) (get_or-set_same table c.s (a + b) 0 inside ∙ both))
        | inr other ↦
            (rw (ne_eqb v c.s other) (get_or-set_other table c.s v (a + b) 0 other ∙ has.each v l))
      ]);
    }

pub width-small : (r : Run) → IsMerging r → (v : ℕ) → v < all_vertices r
    → width_number r v ≤ r.vertices
width-small r run v l = let a = (at_end r run v l).within_all in let n =
    leaf-number-count r run in omega arith

-- the widths of two vertices that are merged, while they are summed up
pub widths_small : {r : Run} {table : List ℕ} {i : ℕ} {c : Collapse} {a b : ℕ} → IsSmallRun r
    → c ≡ entry_at r i → i < steps r → HasNumbers table (width_after r i) (all_vertices r)
    → a ≡ get_or table c.t a → b ≡ get_or table c.u b → a + b ≤ 1048576
widths_small {r} {table} {i} {c} {a} {b} small is l has a_is b_is =
    let run = small.merging in
    let given = ends_given r run i l in
    let first : a ≡ width_after r i c.t =
    number_read has c.t a (rw is (let p = given.0 in omega arith)) a_is in
    let second : b ≡ width_after r i c.u =
    number_read has c.u b (rw is (let p = given.1 in omega arith)) b_is in
    let t_all : width_number r (entry_at r i).t ≡ width_after r i (entry_at r i).t =
    width-kept r run i (steps r) (entry_at r i).t (omega arith) (omega arith) given.0 in
    let u_all : width_number r (entry_at r i).u ≡ width_after r i (entry_at r i).u =
    width-kept r run i (steps r) (entry_at r i).u (omega arith) (omega arith) given.1 in
    let t_is = ap (λ (x : Collapse). width_after r i x.t) is in
    let u_is = ap (λ (x : Collapse). width_after r i x.u) is in
    let whole = width-step r run i l in
    let named = run.named i l in
    let fits = width-small r run (entry_at r i).s (omega arith) in
    let few = small.few_vertices in
    omega arith

-- Nodes

pub left_inside : (r : Run) → IsMerging r → (j : ℕ) → j < length (left_over r)
    → get_or (left_over r) j 0 < all_vertices r
left_inside r run j l = (root_vertex r run j l).0

pub left_number : (r : Run) → IsMerging r → (j : ℕ) → j < length (left_over r)
    → node_number r (get_or (left_over r) j 0) ≡ j
left_number r run j l = (root_vertex r run j l).1

-- The nodes of the ends of collapse j.
abbrev pub EndsHave : Run → List ℕ → ℕ → Type 0
EndsHave r table j =
    (get_or table (entry_at r j).t 0 ≡ node_number r (entry_at r j).t)
    × (get_or table (entry_at r j).u 0 ≡ node_number r (entry_at r j).u)

-- A table of nodes once those of what is left and of the ends of the first i collapses are there.
pub record HasEnds (r : Run) (table : List ℕ) (i : ℕ) : Type 0 where
  pub len : length table ≡ all_vertices r
  pub roots : (j : ℕ) → j < length (left_over r)
      → RootsHave table (node_number r) (left_over r) j
  pub ends : (j : ℕ) → j < i → EndsHave r table j

-- what is left is few, and so are the nodes
pub few_left : {r : Run} {left : List ℕ} → IsSmallRun r → left ≡ left_over r
    → length left ≤ 1048576
few_left {r} {left} small is =
    grind (arith, common_steps, node-count)

pub node-small : (r : Run) → IsSmallRun r → (i : ℕ) → i < steps r
    → length (left_over r) + 2 * (steps r - 1 - i) ≤ 2097152
node-small r small i l =
    let all = node-count r small.merging in
    let few = small.few_vertices in
    omega arith

pub ends_more : {r : Run} {table : List ℕ} {i node : ℕ} {c : Collapse} → IsMerging r
    → HasEnds r table i → c ≡ entry_at r i → i < steps r
    → node ≡ length (left_over r) + 2 * (steps r - 1 - i)
    → HasEnds r (set (set table c.t node) c.u (node + 1)) (i + 1)
ends_more {r} {table} {i} {node} {c} run has is l node_is =
    let len = has.len in
    let given = ends_given r run i l in
    let t_number = node-t r run i l in
    let u_number = node-u r run i l in
    let back : steps r - 1 - i ≡ steps r - suc i = omega arith in
    let t_is : node ≡ node_number r c.t = rw is (omega arith) in
    let u_is : node + 1 ≡ node_number r c.u = rw is (omega arith) in
    let middle = set table c.t node in
    let middle_len = length-set table c.t node in
    let t_lt : c.t < length table = rw is (let p = given.0 in omega arith) in
    let u_lt : c.u < length middle =
    (let q : c.u < length table = rw is (let p = given.1 in omega arith) in omega arith) in
    let keeps : (v : ℕ) → get_or table v 0 ≡ node_number r v
    → get_or (set middle c.u (node + 1)) v 0 ≡ node_number r v = λ v before.
    set_keeps middle (node_number r) c.u (node + 1) v u_is
    (set_keeps table (node_number r) c.t node v t_is before t_lt) u_lt in
    record {
      len = length-set middle c.u (node + 1) ∙ middle_len ∙ len;
      roots = λ j m. keeps (get_or (left_over r) j 0) (has.roots j m);
      ends = λ j m. elim (cases_lt j i) [
        | inl a ↦ (let old =
            has.ends j a in (keeps (entry_at r j).t old.0, keeps (entry_at r j).u old.1))
        | inr a ↦ grind (arith, common_steps, get_or, set, set_keeps, set_makes)
      ];
    }

pub nodes_all : {r : Run} {table : List ℕ} → IsMerging r → HasEnds r table (steps r)
    → HasNumbers table (node_number r) (all_vertices r)
nodes_all {r} {table} run has = record {
  len = has.len;
  each = λ v l. elim (node_of r run v l) [
    | stays_left free place is ↦
        subst (λ w. get_or table w 0 ≡ node_number r w) (at_place v 0 (left_over r) place)
        (has.roots (place_in v (left_over r)) place)
    | as_t i i_lt v_is is ↦ (rw v_is (has.ends i i_lt).0)
    | as_u i i_lt v_is is ↦ (rw v_is (has.ends i i_lt).1)
  ];
}
