-- The first leaves of nodes, one entry of the table more at a time.
use Rattle.std.proofs.Common.{suc, ◌≡◌, ◌≢◌, ℕ, ◌+◌, ◌-◌, ◌*◌, ◌<◌, ◌≤◌, List, [], ◌∷◌, length}
use Rattle.std.proofs.lemmas.Grind.{common_steps}
use Rattle.std.proofs.Common.{sum, map, get_or, take, is_none, inl, inr, sym, ap, ◌∙◌, subst}
use Rattle.std.proofs.Common.{arith, get_or-set_same, get_or-set_other}
use Rattle.std.proofs.Math.ListN.{set}
use Rattle.std.proofs.lemmas.Bool.{cases_eq, cases_lt, eq-eqb, ne_eqb, cond-false}
use Rattle.std.proofs.lemmas.List.{length-set, length-map, get_or_read, get_or-map, take_more}
use Rattle.std.proofs.lemmas.List.Sums.{sum_by-take-le, sum_by_push}
use Rattle.pm_base.specs.declared.log.Collapse.{Collapse}
use Rattle.pm_forest.proofs.OwnerLaws.{sum-cons}
use Rattle.pm_number.specs.Stages.{Run, steps, IsMerging}
use Rattle.pm_number.specs.Numbering.{place_in, sum_before, left_over, step_of}
use Rattle.pm_number.specs.Numbering.{width_number, node_number, start_after}
use Rattle.pm_number.specs.Numbering.{leaf_number}
use Rattle.pm_number.specs.Tables.{IsSmallRun, all_vertices, HasNumbers, RootsHave, HasStarts}
use Rattle.pm_number.proofs.Positions.{at_place, picked-at}
use Rattle.pm_number.proofs.RunLaws.{ends_given}
use Rattle.pm_number.proofs.NodeNumbers.{stays_left, as_t, as_u, node_of, node-t, node-u}
use Rattle.pm_number.proofs.NodeNumbers.{node-there, node-once, t_differs}
use Rattle.pm_number.proofs.LeafNumbers.{is_at, width-step, older, start-t}
use Rattle.pm_number.proofs.LeafNumbers.{start-u, start-else, widths-are}
use Rattle.pm_number.proofs.RunCounts.{leaf-number-count}
use Rattle.pm_number.proofs.NumberLaws.{left_inside, set_keeps, set_makes}

sum_before-at : (f : ℕ → ℕ) (v : ℕ) (xs : List ℕ) → place_in v xs < length xs
    → sum_before f v xs ≡ sum (take (place_in v xs) (map f xs))
sum_before-at f v [] l = absurd (omega arith)
sum_before-at f v (x ∷ xs) l =
    grind (arith, common_steps, cond-false, eq-eqb, ne_eqb, sum-cons, sum_before-at f v xs)

-- the first leaf of root j, where the widths of those before it are summed up
start_root : (r : Run) → IsMerging r → (j : ℕ) → j < length (left_over r) →
    start_after r 0 (get_or (left_over r) j 0)
    ≡ sum (take j (map (λ v. width_number r v) (left_over r)))
unfolding start_after left_over
start_root r run j l = grind (arith, common_steps, get_or, is_none, picked-at, sum_before-at)

-- the widths of the roots up to one
abbrev pub width_sum : Run → ℕ → ℕ
width_sum r j = sum (take j (map (λ v. width_number r v) (left_over r)))

pub width_sum-next : (r : Run) (j : ℕ) → j < length (left_over r)
    → width_sum r (j + 1) ≡ width_sum r j + width_number r (get_or (left_over r) j 0)
width_sum-next r j l =
    let ws = map (λ v. width_number r v) (left_over r) in
    let len = length-map (left_over r) (λ v. width_number r v) in
    ap sum (take_more ws j 0 (omega arith)) ∙ sum_by_push (λ x. x) (take j ws) (get_or ws j 0)
    ∙ ap (λ n. sum (take j ws) + n) (get_or-map (λ v. width_number r v) (left_over r) j 0 0 l)

pub width_sum-le : (r : Run) → IsMerging r → (j : ℕ) → width_sum r j ≤ r.vertices
width_sum-le r run j =
    grind (arith, common_steps, sum_by-take-le, leaf-number-count r run, widths-are r run)

-- A table of first leaves once those of the first j roots are there, and the next leaf.
pub record HasRoots (r : Run) (table : List ℕ) (start j : ℕ) : Type 0 where
  pub len : length table ≡ all_vertices r
  pub sum : start ≡ width_sum r j
  pub each : (k : ℕ) → k < j → RootsHave table (start_after r 0) (left_over r) k

-- what is left, as the code has it
pub item_at : {r : Run} {xs : List ℕ} → IsSmallRun r → xs ≡ left_over r → (j : ℕ) → j < length xs
    → get_or xs j 0 < all_vertices r
item_at {r} small is j l = rw is (left_inside r small.merging j (rw is at l))

pub roots_small : {r : Run} {xs widths : List ℕ} → IsSmallRun r → xs ≡ left_over r
    → HasNumbers widths (width_number r) (all_vertices r) → (j : ℕ) → j < length xs
    → width_sum r j + get_or widths (get_or xs j 0) 0 ≤ 1048576
roots_small {r} {xs} {widths} small is wide j l =
    let inside = rw is at l in
    let v = get_or (left_over r) j 0 in
    let width : get_or widths (get_or xs j 0) 0 ≡ width_number r v =
    rw is (wide.each v (left_inside r small.merging j inside)) in
    let next = width_sum-next r j inside in
    let most = width_sum-le r small.merging (j + 1) in
    let few = small.few_vertices in
    omega arith

pub roots_next : {r : Run} {xs table widths : List ℕ} {start j : ℕ} → IsSmallRun r
    → xs ≡ left_over r → HasNumbers widths (width_number r) (all_vertices r) → j < length xs
    → HasRoots r table start j
    → HasRoots r (set table (get_or xs j 0) start) (start + get_or widths (get_or xs j 0) 0) (j + 1)
roots_next {r} {xs} {table} {widths} {start} {j} small is wide l has =
    grind (
      arith,
      common_steps,
      cases_lt,
      left_inside,
      length-set,
      set,
      set_keeps,
      set_makes,
      start_root,
      width_sum-next,
    )

-- once all roots have theirs
pub roots_all : {r : Run} {table : List ℕ} {start : ℕ} → IsMerging r
    → HasRoots r table start (length (left_over r)) → HasStarts r table 0
roots_all {r} {table} run has = record {
  len = has.len;
  each = λ v l node. elim (node_of r run v l) [
    | stays_left free place is ↦
        subst (λ w. get_or table w 0 ≡ start_after r 0 w) (at_place v 0 (left_over r) place)
        (has.each (place_in v (left_over r)) place)
    | as_t i i_lt v_is is ↦ absurd (omega arith)
    | as_u i i_lt v_is is ↦ absurd (omega arith)
  ];
}

-- one record more gives its children their first leaves
pub starts_more : {r : Run} {table : List ℕ} {d start width : ℕ} {c : Collapse} → IsMerging r
    → HasStarts r table d → c ≡ step_of r d → d < steps r → start ≡ get_or table c.s start
    → width ≡ width_number r c.t
    → HasStarts r (set (set table c.t start) c.u (start + width)) (d + 1)
starts_more {r} {table} {d} {start} {width} {c} run has c_is l start_is width_is =
    let len = has.len in
    let i = steps r - suc d in
    let i_lt : i < steps r = omega arith in
    let given = ends_given r run i i_lt in
    let named = run.named i i_lt in
    let s_lt : c.s < all_vertices r = rw c_is (omega arith) in
    let s_node : node_number r c.s < length (left_over r) + 2 * d =
    rw c_is (let o = older r run i i_lt in omega arith) in
    let t_lt : c.t < length table = rw c_is (let p = given.0 in omega arith) in
    let u_lt : c.u < length table = rw c_is (let p = given.1 in omega arith) in
    let value : start ≡ start_after r d c.s =
    get_or_read table c.s start (omega arith) start_is 0 ∙ has.each c.s s_lt s_node in
    let middle = set table c.t start in
    let middle_len = length-set table c.t start in
    let next : d + 1 ≡ suc d = omega arith in
    let differ : c.t ≢ c.u = rw c_is (t_differs r run i i_lt) in
    let t_start : start ≡ start_after r (suc d) c.t =
    rw c_is (rw c_is at value ∙ sym (start-t r run d)) in
    let u_start : start + width ≡ start_after r (suc d) c.u =
    (let a = rw c_is at value in let b = rw c_is at width_is in let e =
    start-u r run d (t_differs r run i i_lt) in rw c_is (omega arith)) in
    let t_node = node-t r run i i_lt in
    let u_node = node-u r run i i_lt in
    record {
      len = length-set middle c.u (start + width) ∙ middle_len ∙ len;
      each = λ v v_lt node. rw next (elim (cases_eq v c.u) [
        | inl here ↦
            (rw here (get_or-set_same middle c.u (start + width) 0 (omega arith) ∙ u_start))
        | inr not_u ↦
            get_or-set_other middle c.u v (start + width) 0 not_u
            ∙ elim (cases_eq v c.t) [
              | inl here ↦ (rw here (get_or-set_same table c.t start 0 t_lt ∙ t_start))
              | inr not_t ↦
                  let off_t : v ≢ (step_of r d).t =
                  λ z. not_t (z ∙ ap (λ (x : Collapse). x.t) (sym c_is)) in
                  let off_u : v ≢ (step_of r d).u =
                  λ z. not_u (z ∙ ap (λ (x : Collapse). x.u) (sym c_is)) in
                  let before : node_number r v < length (left_over r) + 2 * d =
                  grind (arith, common_steps, node-once) in
                  get_or-set_other table c.t v start 0 not_t ∙ has.each v v_lt before
                  ∙ sym (start-else r run d v off_t off_u)
            ]
      ]);
    }

pub starts_all : {r : Run} {table : List ℕ} → IsMerging r → HasStarts r table (steps r)
    → HasNumbers table (leaf_number r) (all_vertices r)
starts_all {r} run has = record {
  len = has.len;
  each = λ v l. has.each v l (node-there r run v l);
}

-- a first leaf and the width of the vertex are no more than there are vertices
pub start-small : {r : Run} {table : List ℕ} {d start width : ℕ} {c : Collapse} → IsSmallRun r
    → HasStarts r table d → c ≡ step_of r d → d < steps r → start ≡ get_or table c.s start
    → width ≡ width_number r c.t → start + width ≤ 1048576
start-small {r} {table} {d} {start} {width} {c} small has c_is l start_is width_is =
    let len = has.len in
    let run = small.merging in
    let i = steps r - suc d in
    let i_lt : i < steps r = omega arith in
    let named = run.named i i_lt in
    let s_lt : c.s < all_vertices r = rw c_is (omega arith) in
    let s_node : node_number r c.s < length (left_over r) + 2 * d =
    rw c_is (let o = older r run i i_lt in omega arith) in
    let value : start ≡ start_after r d c.s =
    get_or_read table c.s start (omega arith) start_is 0 ∙ has.each c.s s_lt s_node in
    let a = rw c_is at value in
    let b = rw c_is at width_is in
    let given = ends_given r run i i_lt in
    let at_s = (is_at r run d (step_of r d).s (omega arith) (omega arith)
    (rw c_is at s_node)).within_all in
    let both = width-step r run i i_lt in
    let leaves = leaf-number-count r run in
    let few = small.few_vertices in
    omega arith
