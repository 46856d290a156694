-- The third side of an edge, which is told by keys and by vertices alike.
use Rattle.std.proofs.Common.{◌≡◌, ◌≢◌, ℕ, zero, suc, ◌<◌, ◌≤◌, inl, inr, sym, ◌∙◌, Bool, true}
use Rattle.std.proofs.Common.{false, ◌&&◌, Option, Some, None, arith}
use Rattle.std.proofs.lemmas.Grind.{common_steps}
use Rattle.std.specs.Prelude.{◌==◌}
use Rattle.std.proofs.lemmas.Bool.{cases_Bool, eq-eqb, ne_eqb, eqb-true, true≢false, or_cases}
use Rattle.std.proofs.lemmas.Bool.{or_left, or_right, and_parts, and_from}
use Rattle.pm_base.specs.Counts.{count}
use Rattle.pm_base.specs.Sides.{Net, next, to, side_count, NoSideTwice}
use Rattle.pm_base.proofs.Sides.{next-lt}
use Rattle.pm_base.proofs.Counts.{count_same, count-zero, count-true, count-false}
use Rattle.pm_base.proofs.Counted.{count_none, count_one, count_two, count_several, count_most_one}
use Rattle.pm_fans.specs.Splits.{AllStand, IsCuttable}
use Rattle.pm_turn.specs.declared.edges.Edge.{Edge}
use Rattle.pm_turn.specs.Edges.{edge_key_at, IsEdge, has_two, comes_third}
use Rattle.pm_turn.specs.Told.{join_same, is_third, crowded_of}
use Rattle.pm_turn.proofs.TurnedSides.{SameEnds}
use Rattle.pm_turn.proofs.EdgeLaws.{same_key, key_ends}

-- Three numbers pass.
count_three : (p : ℕ → Bool) (n u v w : ℕ) → u < n → v < n → w < n → u ≢ v → u ≢ w → v ≢ w
    → p u ≡ true → p v ≡ true → p w ≡ true → 3 ≤ count p n
count_three p zero u v w ul vl wl uv uw vw tu tv tw = absurd (omega (arith, vl))
count_three p (suc n) u v w ul vl wl uv uw vw tu tv tw =
    grind (
      arith,
      common_steps,
      count-false p n,
      count-true p n,
      count_several p n v w,
      count_several p n u w,
      count_several p n u v,
      count_three p n u v w,
    )

-- Two sides of lower number have a key exactly where two were noted of it.
pub third_told : (m : Net) (n k : ℕ) (r : Option Edge) → IsEdge m n k r
    → has_two r ≡ (count (λ g. edge_key_at m g == k) n == 2)
third_told m n k None none =
    let c = count_none (λ g. edge_key_at m g == k) n (λ i l. ne_eqb _ _ (none i l)) in
    sym (ne_eqb _ _ (λ e. absurd (omega (arith, c, e))))
third_told m n k (Some (Edge.One v)) h =
    let c = count_one (λ g. edge_key_at m g == k) n v.0 h.in_range (eq-eqb _ _ h.has)
    (λ e l t. h.alone e l (eqb-true _ _ t)) in
    sym (ne_eqb _ _ (λ e. absurd (omega (arith, c, e))))
third_told m n k (Some (Edge.Two v w)) h =
    let c = count_two (λ g. edge_key_at m g == k) n v.0 w.0 h.one_in h.other_in h.differ
    (eq-eqb _ _ h.one_has) (eq-eqb _ _ h.other_has) (λ e l t ne.
    elim (h.alone e l (eqb-true _ _ t)) [ inl i ↦ absurd (ne i) | inr i ↦ i ]) in
    sym (eq-eqb _ _ c)
third_told m n k (Some Edge.More) h =
    let c = count_three (λ g. edge_key_at m g == k) n h.one h.two h.three h.one_in h.two_in
    h.three_in h.one_two h.one_three h.two_three (eq-eqb _ _ h.one_has) (eq-eqb _ _ h.two_has)
    (eq-eqb _ _ h.three_has) in
    sym (ne_eqb _ _ (λ e. absurd (omega (arith, c, e))))

-- Sides of one key join the same two vertices.
module _ (m : Net) (e g : ℕ) where
  abbrev along : Bool
  along = (m.from g == m.from e) && (to m g == to m e)

  abbrev against : Bool
  against = (m.from g == to m e) && (to m g == m.from e)

  ends_joined : join_same m e g ≡ true → SameEnds (m.from g) (to m g) (m.from e) (to m e)
  ends_joined j = grind (arith, common_steps, and_parts, eqb-true, or_cases)

  joined_ends : SameEnds (m.from g) (to m g) (m.from e) (to m e) → join_same m e g ≡ true
  joined_ends (inl (p, q)) =
      or_left along against
      (and_from (m.from g == m.from e) (to m g == to m e) (eq-eqb _ _ p) (eq-eqb _ _ q))
  joined_ends (inr (p, q)) =
      or_right along against
      (and_from (m.from g == to m e) (to m g == m.from e) (eq-eqb _ _ p) (eq-eqb _ _ q))

  keys_join : IsCuttable m → e < side_count m → g < side_count m
      → (edge_key_at m g == edge_key_at m e) ≡ join_same m e g
  keys_join h el gl =
      elim (cases_Bool (join_same m e g)) [
        | inl j ↦ eq-eqb _ _ (same_key (m.from g) (to m g) (m.from e) (to m e) (ends_joined j))
            ∙ sym j
        | inr un ↦
            ne_eqb _ _ (λ is.
            let ends = key_ends (m.from g) (to m g) (m.from e) (to m e)
            (h.low g gl) (h.low (next g) (next-lt m.faces g gl))
            (h.low e el) (h.low (next e) (next-lt m.faces e el)) is in
            true≢false (sym (joined_ends ends) ∙ un)) ∙ sym un
      ]

pub crowded_by_keys : (m : Net) → IsCuttable m → count (comes_third m) (side_count m) ≡ crowded_of m
crowded_by_keys m h = grind (arith, common_steps, count_same, keys_join)

-- Of an oriented manifold no edge has a third side.
count_once : (p : ℕ → Bool) (n : ℕ)
    → ((i j : ℕ) → i < n → j < n → p i ≡ true → p j ≡ true → i ≡ j) → count p n ≤ 1
count_once p zero one = let a = count-zero p in omega (arith, a)
count_once p (suc n) one =
    grind (arith, common_steps, count-false p n, count_most_one p (suc n) n, count_once p n)

module _ (m : Net) (stand : AllStand m) (once : NoSideTwice m) where
  -- A side before e that joins its two vertices runs against it.
  runs_back : (e g : ℕ) → e < side_count m → g < e → join_same m e g ≡ true
      → (m.from g ≡ to m e) × (to m g ≡ m.from e)
  runs_back e g el gl j = grind (arith, common_steps, ends_joined)

  never_third : (e : ℕ) → e < side_count m → is_third m e ≡ false
  never_third e el =
      let few : count (join_same m e) e ≤ 1 =
      count_once (join_same m e) e (λ i j il jl s t.
      let (p, q) = runs_back e i el il s in
      let (u, v) = runs_back e j el jl t in
      once i j (stand i (omega (arith, il, el))) (stand j (omega (arith, jl, el))) (p ∙ sym u)
      (q ∙ sym v)) in
      ne_eqb _ _ (λ two. absurd (omega (arith, few, two)))

  pub none_crowded : crowded_of m ≡ 0
  none_crowded = count_none (is_third m) (side_count m) never_third
