-- Two records that split the same node in the same way, and the shape of nodes with one record
-- more.
use Rattle.std.proofs.Common.{◌≡◌, ◌≢◌, ℕ, zero, suc, ◌+◌, ◌<◌, eqb, Bool, false, List, []}
use Rattle.std.proofs.lemmas.Grind.{common_steps}
use Rattle.std.proofs.Common.{◌∷◌, ◌++◌, get_or, None, inl, inr, refl, sym, ap, ◌∙◌, arith}
use Rattle.std.proofs.lemmas.Bool.{cases_lt, eqb-false, cond-true, cond-false}
use Rattle.std.proofs.lemmas.Option.{none-some}
use Rattle.pm_base.specs.Sides.{find_below}
use Rattle.pm_forest.specs.declared.parts.Record.{Record}
use Rattle.pm_forest.specs.Forest.{Hierarchy, no_record, record_at, record_count, s_of, node_count}
use Rattle.pm_forest.specs.Forest.{interval_after, interval_of, splitter_of, HasForestShape}
use Rattle.pm_forest.specs.Rules.{with_record}
use Rattle.pm_forest.proofs.Prefix.{interval_after-alike, interval_of-with_record}
use Rattle.pm_forest.proofs.Prefix.{record_at-with_record, record_at-with_record_last}
use Rattle.pm_forest.proofs.Prefix.{record_count-with_record, s_of-with_record}
use Rattle.pm_forest.proofs.Prefix.{s_of-with_record_last, splitter_of-with_record}

-- Records that split the same node in the same way: their faces don't matter to the nodes

push_alike : {X Y : Type 0} (f : X → Y) (xs : List X) (x y d : X) (j : ℕ) → f x ≡ f y →
    f (get_or (xs ++ x ∷ []) j d) ≡ f (get_or (xs ++ y ∷ []) j d)
push_alike f [] x y d zero same = same
push_alike f [] x y d (suc j) same = refl
push_alike f (z ∷ xs) x y d zero same = refl
push_alike f (z ∷ xs) x y d (suc j) same = push_alike f xs x y d j same

pub s_of-same_split : (h : Hierarchy) (r q : Record) → r.s ≡ q.s → (j : ℕ) →
    s_of (with_record h r) j ≡ s_of (with_record h q) j
unfolding s_of
s_of-same_split h r q node j = push_alike (λ p. p.s) h.records r q no_record j node

pub interval_after-same_split : (h : Hierarchy) (r q : Record) → r.s ≡ q.s → r.width ≡ q.width
    → (k v : ℕ) →
    interval_after (with_record h r) k v ≡ interval_after (with_record h q) k v
interval_after-same_split h r q node width k v =
    grind (arith, common_steps, interval_after-alike, push_alike, s_of-same_split)

record_count-same : (h : Hierarchy) (r q : Record)
    → record_count (with_record h r) ≡ record_count (with_record h q)
record_count-same h r q = record_count-with_record h r ∙ sym (record_count-with_record h q)

pub interval_of-same_split : (h : Hierarchy) (r q : Record) → r.s ≡ q.s → r.width ≡ q.width
    → (v : ℕ) →
    interval_of (with_record h r) v ≡ interval_of (with_record h q) v
interval_of-same_split h r q node width v =
    ap (λ n. interval_after (with_record h r) n v) (record_count-same h r q)
    ∙ interval_after-same_split h r q node width (record_count (with_record h q)) v

pub splitter_of-same_split : (h : Hierarchy) (r q : Record) → r.s ≡ q.s → (v : ℕ) →
    splitter_of (with_record h r) v ≡ splitter_of (with_record h q) v
splitter_of-same_split h r q node v = grind (arith, common_steps, splitter_of-with_record)

-- The shape of the nodes

pub find_below-none : (p : ℕ → Bool) (n k : ℕ) → find_below p n ≡ None → k < n → p k ≡ false
find_below-none p zero k none l = absurd (omega arith)
find_below-none p (suc n) k none l =
    grind (arith, common_steps, cond-false, cond-true, none-some, find_below-none p n k)

-- no record splits a node that has no splitter
pub unsplit : (h : Hierarchy) (v : ℕ) → splitter_of h v ≡ None → (k : ℕ) → k < record_count h
    → s_of h k ≢ v
unfolding splitter_of
unsplit h v none k l =
    eqb-false _ _ (find_below-none (λ j. eqb (s_of h j) v) (record_count h) k none l)

-- a record may be added that splits a node that isn't split yet and leaves each child a leaf
pub HasForestShape-with_record : (h : Hierarchy) (r : Record) → HasForestShape h
    → r.s < node_count h →
    splitter_of h r.s ≡ None → 0 < r.width
    → (interval_of h r.s).from + r.width < (interval_of h r.s).until →
    HasForestShape (with_record h r)
HasForestShape-with_record h r shape there none first rest_of =
    let n = record_count h in
    let count = record_count-with_record h r in
    let last = s_of-with_record_last h r in
    record {
      older = λ k l. elim (cases_lt k n) [
        | inl before ↦ (rw (s_of-with_record h r k before) (shape.older k before))
        | inr past ↦ (let is : k ≡ n = omega arith in rw (is, last) there)
      ];
      once = λ j k a l. elim (cases_lt k n) [
        | inl before ↦
            let earlier : j < n = omega arith in
            (rw (s_of-with_record h r j earlier, s_of-with_record h r k before)
            (shape.once j k a before))
        | inr past ↦ grind (arith, common_steps, s_of-with_record, unsplit)
      ];
      width = λ k l. elim (cases_lt k n) [
        | inl before ↦
            let older = shape.older k before in
            let same = interval_of-with_record h r (s_of h k) (omega arith) in
            rw (s_of-with_record h r k before, record_at-with_record h r k before, same)
            (shape.width k before)
        | inr past ↦
            grind (arith, common_steps, interval_of-with_record, record_at-with_record_last)
      ];
    }

pub HasForestShape-same_split : (h : Hierarchy) (r q : Record) → r.s ≡ q.s → r.width ≡ q.width →
    HasForestShape (with_record h r) → HasForestShape (with_record h q)
HasForestShape-same_split h r q node width shape =
    let count = record_count-same h r q in
    record {
      older = λ k l. rw (← s_of-same_split h r q node k) (shape.older k (omega arith));
      once = λ j k a l. rw (← s_of-same_split h r q node j, ← s_of-same_split h r q node k)
          (shape.once j k a (omega arith));
      width = λ k l.
          let w : (record_at (with_record h r) k).width ≡ (record_at (with_record h q) k).width =
          push_alike (λ p. p.width) h.records r q no_record k width in
          rw (
            ← s_of-same_split h r q node k,
            ← interval_of-same_split h r q node width
                (s_of (with_record h r) k),
            ← w,
          ) (shape.width k (omega arith));
    }
