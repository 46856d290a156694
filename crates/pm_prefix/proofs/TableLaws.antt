-- The table of how many active nodes begin before each leaf.
use Rattle.std.proofs.Common.{◌≡◌, ℕ, ◌+◌, ◌*◌, ◌<◌, ◌≤◌, Bool, true, false, List, length, get_or}
use Rattle.std.proofs.Common.{suc, set, length-set, Option, None, Some, inl, inr, refl, sym}
use Rattle.std.proofs.Common.{ap, ◌∙◌, arith}
use Rattle.std.proofs.lemmas.Bool.{cases_Bool, cases_eq, eqb-true, ltb-true, both_ways}
use Rattle.std.proofs.lemmas.List.{get_or-set_same, get_or-set_other}
use mir.Val.{bool_byte}
use Rattle.std.specs.Prelude.{IfOk, Result, Ok, Err}
use Rattle.pm_base.specs.Counts.{count, one_if, set_of}
use Rattle.pm_base.proofs.Counts.{count-zero, count_same}
use Rattle.pm_forest.specs.declared.parts.Counts.{Counts}
use Rattle.pm_forest.specs.declared.parts.Record.{Record}
use Rattle.pm_forest.specs.Forest.{Hierarchy, record_count, node_count, leaf_count, interval_of}
use Rattle.pm_forest.specs.Fronts.{ancestor_of, below}
use Rattle.pm_forest.specs.Shaping.{HasBegun}
use Rattle.pm_forest.specs.Tables.{Grown, all_of, grown}
use Rattle.pm_forest.proofs.Ancestors.{active-ancestor}
use Rattle.pm_forest.proofs.Prefix.{interval_of-with_record}
use Rattle.pm_forest.proofs.UnitLaws.{counts_fit}
use Rattle.pm_prefix.specs.Prefix.{begins, begun_before}
use Rattle.pm_prefix.proofs.Nodes.{HasNodes, node_within}
use Rattle.pm_prefix.proofs.Begins.{made_begins}

-- no more roots and records than leaves
pub few_units : (c : Counts) (h : Hierarchy) → HasBegun c h
    → length h.roots + record_count h ≤ 1048576
few_units c h begun =
    let fits = counts_fit c begun.counts in
    omega (arith, begun.all_roots, begun.few)

-- the nodes that are there keep their leaves where a record is coming
pub grown_interval : (g : Grown) (v : ℕ) → v < node_count g.h
    → interval_of (grown g) v ≡ interval_of g.h v
grown_interval g v l = go g.coming refl
  where
    go : (o : Option Record) → g.coming ≡ o → interval_of (all_of g.h o) v ≡ interval_of g.h v
    go None is = refl
    go (Some r) is = interval_of-with_record g.h r v l

-- The leaves with which nodes begin.

-- The flags of the first leaves of the first nodes are set, and those of none but first leaves.
pub record AreFlags (h : Hierarchy) (n nodes : ℕ) (flags : List Bool) : Type 0 where
  pub len : length flags ≡ leaf_count h
  pub sound : (x : ℕ) → x < leaf_count h → set_of flags x ≡ true → begins h n x ≡ true
  pub complete : (v : ℕ) → v < nodes → set_of flags (interval_of h v).from ≡ true

module _ (h : Hierarchy) (shape : HasNodes h) (n : ℕ) (few : n ≤ record_count h) where
  pub one_flag_more : (v : ℕ) (flags : List Bool) → v < length h.roots + 2 * n
      → AreFlags h n v flags → AreFlags h n (v + 1) (set flags (interval_of h v).from true)
  one_flag_more v flags l are =
      let from = (interval_of h v).from in
      let inside = (node_within h shape v (omega arith)).0 in
      let len = are.len in
      let here = get_or-set_same flags from true false (omega arith) in
      record {
        len = length-set flags from true ∙ len;
        sound = λ x m e. elim (cases_eq x from) [
          | inl is ↦ ap (begins h n) is ∙ made_begins h shape n v few l
          | inr ne ↦ are.sound x m (sym (get_or-set_other flags from x true false ne) ∙ e)
        ];
        complete = λ w m.
            let at = (interval_of h w).from in
            elim (cases_eq at from) [
              | inl is ↦ ap (set_of (set flags from true)) is ∙ here
              | inr ne ↦
                  get_or-set_other flags from at true false ne ∙ are.complete w
                  (elim (cases_eq w v) [
                    | inl same ↦ absurd (ne (ap (λ z. (interval_of h z).from) same))
                    | inr other ↦ omega arith
                  ])
            ];
      }

  ancestor-made : (x : ℕ) → x < leaf_count h
      → ancestor_of h (below n) x < length h.roots + 2 * n
  ancestor-made x l =
      elim (active-ancestor h shape.nodes (below n) x l).0 [
        | inl root ↦ omega arith
        | inr (j, j_lt, e, makes) ↦
            let j_few = ltb-true j n e in
            elim makes [ inl is ↦ omega arith | inr is ↦ omega arith ]
      ]

  pub flags_are : (flags : List Bool) → AreFlags h n (length h.roots + 2 * n) flags → (x : ℕ)
      → x < leaf_count h → set_of flags x ≡ begins h n x
  unfolding begins
  flags_are flags are x l =
      elim (cases_Bool (begins h n x)) [
        | inl e ↦
            let a = ancestor_of h (below n) x in
            let is : (interval_of h a).from ≡ x = eqb-true (interval_of h a).from x e in
            ap (set_of flags) (sym is) ∙ are.complete a (ancestor-made x l) ∙ sym e
        | inr e ↦ elim (cases_Bool (set_of flags x)) [
          | inl f ↦ absurd (both_ways _ e (are.sound x l f))
          | inr f ↦ f ∙ sym e
        ]
      ]

-- How many flags are set before each.

pub record AreCounts (flags : List Bool) (x most : ℕ) (table : List ℕ) : Type 0 where
  pub len : length table ≡ length flags + 1
  pub sum : most ≡ count (set_of flags) x
  pub each : (y : ℕ) → y ≤ x → get_or table y 0 ≡ count (set_of flags) y

count_from : (p : ℕ → Bool) (x : ℕ) → count p (x + 1) ≡ one_if (p x) + count p x
unfolding count
count_from p x = let step : x + 1 ≡ suc x = omega arith in rw step refl

pub first_count : (flags : List Bool) (table : List ℕ) → length table ≡ length flags + 1
    → get_or table 0 0 ≡ 0 → AreCounts flags 0 0 table
first_count flags table len zero_is = record {
  len = len;
  sum = sym (count-zero (set_of flags));
  each = λ y l.
      let is : y ≡ 0 = omega arith in
      ap (λ z. get_or table z 0) is ∙ zero_is ∙ sym (count-zero (set_of flags))
      ∙ ap (count (set_of flags)) (sym is);
}

pub count_more_flag : (flags : List Bool) (x was : ℕ) (table : List ℕ) → x < length flags
    → AreCounts flags x was table → (now : ℕ) → now ≡ was + one_if (set_of flags x)
    → AreCounts flags (x + 1) now (set table (x + 1) now)
count_more_flag flags x was table l are now is =
    let next = count_from (set_of flags) x in
    let len = are.len in
    let new : now ≡ count (set_of flags) (x + 1) = omega (arith, are.sum) in
    record {
      len = length-set table (x + 1) now ∙ len;
      sum = new;
      each = λ y m. elim (cases_eq y (x + 1)) [
        | inl at ↦
            ap (λ z. get_or (set table (x + 1) now) z 0) at
            ∙ get_or-set_same table (x + 1) now 0 (omega arith)
            ∙ new ∙ ap (count (set_of flags)) (sym at)
        | inr ne ↦
            get_or-set_other table (x + 1) y now 0 ne ∙ are.each y (omega arith)
      ];
    }

pub byte_one : (b : Bool) → bool_byte b ≡ one_if b
byte_one true = refl
byte_one false = refl

-- the sums of the flags of first leaves
pub begun_by_flags : {T E : Type 0} (table : T → List ℕ) (result : Result T E) (h : Hierarchy)
    (n : ℕ) {flags slice : List Bool} → slice ≡ flags → length flags ≡ leaf_count h
    → ((x : ℕ) → x < leaf_count h → set_of flags x ≡ begins h n x)
    → IfOk result (λ t. (x : ℕ) → x ≤ length slice
    → get_or (table t) x 0 ≡ count (set_of slice) x)
    → IfOk result (λ t. (x : ℕ) → x ≤ leaf_count h → get_or (table t) x 0 ≡ begun_before h n x)
begun_by_flags table (Err e) h n same len are sums = tt
begun_by_flags table (Ok t) h n {flags} {slice} same len are sums = λ x l.
    sums x (omega (arith, ap length same))
    ∙ ap (λ fs. count (set_of fs) x) same
    ∙ count_same (set_of flags) (begins h n) x (λ y m. are y (omega arith))
