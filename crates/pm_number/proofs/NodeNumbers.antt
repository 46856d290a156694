-- The nodes of a run's vertices.
use Rattle.std.proofs.Common.{suc, ◌≡◌, ◌≢◌, ℕ, ◌+◌, ◌-◌, ◌*◌, ◌/◌, ◌%◌, ◌<◌, eqb, true, cond}
use Rattle.std.proofs.lemmas.Grind.{common_steps}
use Rattle.std.proofs.Common.{is_none, Some, None, length, get_or, ◌⊎◌, inl, inr, refl, sym, ap}
use Rattle.std.proofs.Common.{◌∙◌, arith}
use Rattle.std.proofs.lemmas.List.{length-map}
use Rattle.std.proofs.lemmas.List.FromFn.{get_or-map-range_with_len, length-map-range_with_len}
use Rattle.std.proofs.lemmas.Bool.{cases_eq, cases_lt, cases_order, or_cases, or_left, or_right}
use Rattle.std.proofs.lemmas.Bool.{eqb-true, eq-eqb, ne_eqb, cond-true, cond-false, false≢true}
use Rattle.pm_base.proofs.Search.{find_below-some, find_below-has, option_cases}
use Rattle.pm_forest.specs.Forest.{record_count, record_at, no_record, s_of}
use Rattle.pm_number.proofs.Positions.{place-once, picked-has, picked-at}
use Rattle.pm_number.proofs.RunLaws.{used_t, used_u, ends_given, never_again}
use Rattle.pm_number.specs.Numbering.{place_in, takes, taken_by, left_over, step_of, node_at}
use Rattle.pm_number.specs.Numbering.{node_number, numbered_step, numbered_root, hierarchy_of}
use Rattle.pm_number.specs.Stages.{BeginsSide, Run, steps, entry_at, net_of_run_after, IsMerging}

pub takes-parts : (r : Run) (v i : ℕ) → takes r v i ≡ true → ((entry_at r i).t ≡ v)
    ⊎ ((entry_at r i).u ≡ v)
takes-parts r v i e =
    elim (or_cases _ _ e) [ inl a ↦ inl (eqb-true _ _ a) | inr a ↦ inr (eqb-true _ _ a) ]

pub takes-t : (r : Run) (i : ℕ) → takes r (entry_at r i).t i ≡ true
takes-t r i = or_left _ _ (eq-eqb (entry_at r i).t (entry_at r i).t refl)

pub takes-u : (r : Run) (i : ℕ) → takes r (entry_at r i).u i ≡ true
takes-u r i = or_right _ _ (eq-eqb (entry_at r i).u (entry_at r i).u refl)

module _ (r : Run) (run : IsMerging r) where
  -- no vertex is taken twice
  used_once : (i j v : ℕ) → i < steps r → j < i → takes r v j ≡ true
      → BeginsSide (net_of_run_after r i) v → ⊥
  used_once i j v l m e (g, g_lt, is) =
      let n = never_again r run i j g (omega arith) m g_lt in
      elim (takes-parts r v j e) [ inl z ↦ n.0 (is ∙ sym z) | inr z ↦ n.1 (is ∙ sym z) ]

  taken_used : (i v : ℕ) → i < steps r → takes r v i ≡ true → BeginsSide (net_of_run_after r i) v
  taken_used i v l e =
      grind (arith, common_steps, takes-parts r v i e, used_t r run i l, used_u r run i l)

  takes-same : (i j v : ℕ) → i < steps r → j < steps r → takes r v i ≡ true → takes r v j ≡ true
      → i ≡ j
  takes-same i j v l m a b =
      elim (cases_order i j) [
        | inl is ↦ is
        | inr other ↦ elim other [
          | inl c ↦ absurd (used_once j i v m c a (taken_used j v m b))
          | inr c ↦ absurd (used_once i j v l c b (taken_used i v l a))
        ]
      ]

  pub taken-by : (i v : ℕ) → i < steps r → takes r v i ≡ true → taken_by r v ≡ Some i
  unfolding taken_by
  taken-by i v l e =
      let (j, is) = find_below-has (takes r v) (steps r) i l e in
      let p = find_below-some (takes r v) (steps r) j is in
      is ∙ ap Some (takes-same j i v p.1 l p.0 e)

  pub taken-parts : (i v : ℕ) → taken_by r v ≡ Some i → (i < steps r) × (takes r v i ≡ true)
  unfolding taken_by
  taken-parts i v e = let p = find_below-some (takes r v) (steps r) i e in (p.1, p.0)

  pub t_differs : (i : ℕ) → i < steps r → (entry_at r i).t ≢ (entry_at r i).u
  t_differs i l z = grind (arith, common_steps)

  -- The nodes of the two ends
  pub node-t : (i : ℕ) → i < steps r
      → node_number r (entry_at r i).t ≡ length (left_over r) + 2 * (steps r - suc i)
  unfolding node_number
  node-t i l = grind (arith, common_steps, cond-true, eq-eqb, taken-by i, takes-t r i)

  pub node-u : (i : ℕ) → i < steps r
      → node_number r (entry_at r i).u ≡ length (left_over r) + 2 * (steps r - suc i) + 1
  unfolding node_number
  node-u i l =
      let v = (entry_at r i).u in
      let one : cond (eqb (entry_at r i).t v) 0 1 ≡ 1 =
      cond-false _ 0 1 (ne_eqb (entry_at r i).t v (t_differs i l)) in
      ap (node_at r v) (taken-by i v l (takes-u r i))
      ∙ ap (λ n. length (left_over r) + 2 * (steps r - suc i) + n) one

  -- Each vertex is left, or is an end of a collapse
  pub data NodeOf (v : ℕ) : Type 0 where
    stays_left : taken_by r v ≡ None → place_in v (left_over r) < length (left_over r)
        → node_number r v ≡ place_in v (left_over r) → NodeOf v
    as_t : (i : ℕ) → i < steps r → v ≡ (entry_at r i).t
        → node_number r v ≡ length (left_over r) + 2 * (steps r - suc i) → NodeOf v
    as_u : (i : ℕ) → i < steps r → v ≡ (entry_at r i).u
        → node_number r v ≡ length (left_over r) + 2 * (steps r - suc i) + 1 → NodeOf v

  pub none-left : (v : ℕ) → taken_by r v ≡ None → node_number r v ≡ place_in v (left_over r)
  unfolding node_number
  none-left v e = ap (node_at r v) e

  pub none-place : (v : ℕ) → v < r.vertices + steps r → taken_by r v ≡ None
      → place_in v (left_over r) < length (left_over r)
  unfolding left_over
  none-place v l e =
      picked-has (λ v. is_none (taken_by r v)) 0 (r.vertices + steps r) v (omega arith)
      (omega arith) (ap is_none e)

  pub node_of : (v : ℕ) → v < r.vertices + steps r → NodeOf v
  node_of v l =
      elim (option_cases (taken_by r v)) [
        | inl e ↦ stays_left e (none-place v l e) (none-left v e)
        | inr (i, e) ↦
            let p = taken-parts i v e in
            elim (takes-parts r v i p.1) [
              | inl z ↦ as_t i p.0 (sym z) (ap (node_number r) (sym z) ∙ node-t i p.0)
              | inr z ↦ as_u i p.0 (sym z) (ap (node_number r) (sym z) ∙ node-u i p.0)
            ]
      ]

  pub node-once : (v w : ℕ) → v < r.vertices + steps r → w < r.vertices + steps r
      → node_number r v ≡ node_number r w → v ≡ w
  node-once v w l m e =
      elim (node_of v l) [
        | stays_left a b c ↦
            elim (node_of w m) [
              | stays_left a' b' c' ↦ place-once v w (left_over r) b b' (sym c ∙ e ∙ c')
              | as_t j j_lt is c' ↦ absurd (omega arith)
              | as_u j j_lt is c' ↦ absurd (omega arith)
            ]
        | as_t i i_lt is c ↦
            elim (node_of w m) [
              | stays_left a' b' c' ↦ absurd (omega arith)
              | as_t j j_lt is' c' ↦
                  (let same : i ≡ j = omega arith in is ∙ ap (λ n. (entry_at r n).t) same ∙ sym is')
              | as_u j j_lt is' c' ↦ absurd (omega arith)
            ]
        | as_u i i_lt is c ↦
            elim (node_of w m) [
              | stays_left a' b' c' ↦ absurd (omega arith)
              | as_t j j_lt is' c' ↦ absurd (omega arith)
              | as_u j j_lt is' c' ↦
                  (let same : i ≡ j = omega arith in is ∙ ap (λ n. (entry_at r n).u) same ∙ sym is')
            ]
      ]

  pub node-there : (v : ℕ) → v < r.vertices + steps r
      → node_number r v < length (left_over r) + 2 * steps r
  node-there v l = grind (arith, common_steps, node_of v l)

  -- every number of a node is that of a vertex
  pub node-back : (n : ℕ) → n < length (left_over r) + 2 * steps r
      → (v : ℕ) × (v < r.vertices + steps r) × (node_number r v ≡ n)
  unfolding left_over
  node-back n l =
      elim (cases_lt n (length (left_over r))) [
        | inl a ↦
            let (passes, low, high, place) =
            picked-at (λ v. is_none (taken_by r v)) 0 (r.vertices + steps r) n a in
            let v = get_or (left_over r) n 0 in
            let free : taken_by r v ≡ None =
            grind (arith, common_steps, false≢true, is_none, option_cases) in
            (v, omega arith, none-left v free ∙ place)
        | inr a ↦
            let k = (n - length (left_over r)) / 2 in
            let i = steps r - suc k in
            let i_lt : i < steps r = omega arith in
            let g = ends_given r run i i_lt in
            elim (cases_eq ((n - length (left_over r)) % 2) 0) [
              | inl z ↦ (
                (entry_at r i).t,
                (let q = g.0 in omega arith),
                node-t i i_lt
                    ∙ omega arith,
              )
              | inr z ↦ (
                (entry_at r i).u,
                (let q = g.1 in omega arith),
                node-u i i_lt
                    ∙ omega arith,
              )
            ]
      ]

-- The records and the roots, read

pub root-count : (r : Run) → length (hierarchy_of r).roots ≡ length (left_over r)
root-count r = length-map (left_over r) (numbered_root r)

pub count : (r : Run) → record_count (hierarchy_of r) ≡ steps r
count r = length-map-range_with_len (numbered_step r) 0 (steps r)

pub record-at : (r : Run) (k : ℕ) → k < steps r → record_at (hierarchy_of r) k ≡ numbered_step r k
record-at r k l =
    get_or-map-range_with_len (numbered_step r) 0 (steps r) k k no_record l (omega arith)

pub s-of : (r : Run) (k : ℕ) → k < steps r → s_of (hierarchy_of r) k ≡ node_number r (step_of r k).s
unfolding s_of
s-of r k l = ap (λ c. c.s) (record-at r k l)
