-- The records that wait for a split, once a record is split or collapsed, and in the base front.
use Rattle.std.proofs.Common.{◌≡◌, ℕ, ◌+◌, ◌<◌, eqb, ltb, Bool, true, false, not, ◌&&◌, ◌||◌, cond}
use Rattle.std.proofs.Common.{List, length, Option, None, Some, inl, inr, refl, sym, ap, ◌∙◌, arith}
use Rattle.std.proofs.Math.Bool.{and-true}
use Rattle.std.proofs.Math.ListN.{set, length-set}
use Rattle.std.proofs.lemmas.Bool.{cases_eq, or_cases, or_left, or_right, and_from, and_right}
use Rattle.std.proofs.lemmas.Bool.{not_from_true, not_from_false, both_ways, false_from_ne_true}
use Rattle.std.proofs.lemmas.Bool.{eq-eqb, ne_eqb, eqb-true, lt-ltb, ltb-true, cond-true}
use Rattle.std.proofs.lemmas.Bool.{cond-false}
use Rattle.std.proofs.lemmas.List.{get_or-set_other}
use Rattle.std.proofs.lemmas.Grind.{get_or-set_at, common_steps}
use Rattle.pm_forest.specs.Forest.{Hierarchy, record_count, s_of, t_of, u_of, maker_of, splitter_of}
use Rattle.pm_forest.specs.Fronts.{with, without, no_records, made_in, is_active}
use Rattle.pm_forest.specs.Moves.{may_try}
use Rattle.pm_forest.specs.Rules.{HasShape}
use Rattle.pm_forest.proofs.Nodes.{maker_of-makes, maker_of-from, splitter_of-splits, splitter_of-s}
use Rattle.pm_forest.proofs.ShapeLaws.{shape_of_nodes}
use Rattle.pm_beyond.specs.Moves.{IsClosed, as_maker, is_at}
use Rattle.pm_beyond.proofs.PlanLists.{same_bools}
use Rattle.pm_beyond.proofs.Outer.{is_at-parts, is_at-from}
use Rattle.pm_candidates.specs.Candidates.{AreAnswers, AreCleared, AreAdded}
use Rattle.pm_candidates.proofs.NeededLaws.{not_own, unwanted}
use Rattle.pm_beyond.proofs.PlanSteps.{without-same}

-- Tests
try_once : (a b : Bool) → ((a && not b) && not b) ≡ (a && not b)
try_once false b = refl
try_once true false = refl
try_once true true = refl

cond_or : (b t : Bool) → cond b true t ≡ (b || t)
cond_or true t = refl
cond_or false t = refl

cond_and : (b t : Bool) → cond b false t ≡ (not b && t)
cond_and true t = refl
cond_and false t = refl

-- m: what made the node is split; c: the record is split; a and b: it splits the first or the
-- second new node
wait_more : (m c a b : Bool) → ((a || b) ≡ true → c ≡ false)
    → (((m && not c) || a) || b) ≡ (((a || b) || m) && not c)
wait_more m true true b f = absurd (both_ways true (f refl) refl)
wait_more m true false true f = absurd (both_ways true (f refl) refl)
wait_more true true false false f = refl
wait_more false true false false f = refl
wait_more true false true b f = refl
wait_more true false false true f = refl
wait_more true false false false f = refl
wait_more false false true b f = refl
wait_more false false false true f = refl
wait_more false false false false f = refl

wait_less : (m c a b : Bool) → (((m && not c) && not a) && not b) ≡ ((not (a || b) && m) && not c)
wait_less false c true b = refl
wait_less false c false true = refl
wait_less false c false false = refl
wait_less true true true b = refl
wait_less true true false true = refl
wait_less true true false false = refl
wait_less true false true b = refl
wait_less true false false true = refl
wait_less true false false false = refl

-- What made a node is split, with a record more or one less.
made_with : (T : ℕ → Bool) (k : ℕ) (m : Option ℕ)
    → made_in (with T k) m ≡ (is_at k m || made_in T m)
made_with T k None = refl
made_with T k (Some i) = cond_or (eqb i k) (T i)

made_without : (T : ℕ → Bool) (k : ℕ) (m : Option ℕ)
    → made_in (without T k) m ≡ (not (is_at k m) && made_in T m)
made_without T k None = refl
made_without T k (Some i) = cond_and (eqb i k) (T i)

module _ (h : Hierarchy) (shape : HasShape h) where
  -- The record that splits a node, and the one that made it
  splits_at : (v j : ℕ) → j < record_count h → is_at j (splitter_of h v) ≡ eqb (s_of h j) v
  splits_at v j l =
      same_bools (is_at j (splitter_of h v)) (eqb (s_of h j) v)
      (λ e. eq-eqb (s_of h j) v (splitter_of-splits h j v (is_at-parts j (splitter_of h v) e)).0)
      (λ e. is_at-from j (splitter_of h v) (ap (splitter_of h) (sym (eqb-true (s_of h j) v e))
      ∙ splitter_of-s h (shape_of_nodes h shape) j l))

  makes_it : (k v : ℕ) → is_at k (maker_of h v) ≡ (eqb v (t_of h k) || eqb v (u_of h k))
  makes_it k v =
      grind (
        arith,
        common_steps,
        eq-eqb,
        eqb-true,
        is_at-from,
        is_at-parts,
        maker_of-from,
        maker_of-makes,
        or_cases,
        or_left,
        or_right,
        same_bools,
      )

  -- A record may be tried where what made its node is split and it isn't.
  tries : (T : ℕ → Bool) (j : ℕ) → j < record_count h
      → may_try h T j ≡ (made_in T (maker_of h (s_of h j)) && not (T j))
  unfolding is_active
  tries T j l = grind (arith, common_steps, shape_of_nodes, splitter_of-s, try_once)

  module _ (T : ℕ → Bool) (closed : IsClosed h T) (k : ℕ) (l : k < record_count h) where
    children_split : (j : ℕ) → j < record_count h →
        is_at k (maker_of h (s_of h j))
        ≡ (is_at j (splitter_of h (t_of h k)) || is_at j (splitter_of h (u_of h k)))
    children_split j j_lt = grind (arith, common_steps, makes_it, splits_at)

    module _ (unsplit : T k ≡ false) where
      -- Once record k is split
      pub waiting-with : (old a b : List Bool) → AreAnswers h (may_try h T) old
          → AreAdded old a (λ j. is_at j (splitter_of h (t_of h k))) →
          AreAdded a b (λ j. is_at j (splitter_of h (u_of h k)))
          → AreAnswers h (may_try h (with T k)) (set b k false)
      waiting-with old a b are first second =
          let len : length b ≡ record_count h = second.len ∙ first.len ∙ are.len in
          record {
            len = length-set b k false ∙ len;
            each = λ j j_lt.
                let m = maker_of h (s_of h j) in
                let made = made_in T m in
                let t = is_at j (splitter_of h (t_of h k)) in
                let u = is_at j (splitter_of h (u_of h k)) in
                elim (cases_eq j k) [
                  | inl is ↦
                      grind (
                        arith,
                        common_steps,
                        and_right,
                        cond-true,
                        eq-eqb,
                        get_or-set_at,
                        not_from_true,
                        tries,
                      )
                  | inr other ↦
                      get_or-set_other b k j false false other
                      ∙ second.each j (omega (arith, first.len, are.len))
                      ∙ ap (λ o. o || u) (first.each j (omega (arith, are.len)))
                      ∙ ap (λ o. (o || t) || u) (are.each j j_lt ∙ tries T j j_lt)
                      ∙ wait_more made (T j) t u
                      (λ e. unwanted h T closed k unsplit j j_lt
                      (as_maker (maker_of-makes h k (s_of h j)
                      (is_at-parts k m (children_split j j_lt ∙ e)))))
                      ∙ ap (λ c. (c || made) && not (T j)) (sym (children_split j j_lt))
                      ∙ ap (λ o. o && not (T j)) (sym (made_with T k m))
                      ∙ ap (λ o. made_in (with T k) m && not o)
                      (sym (cond-false (eqb j k) true (T j) (ne_eqb j k other)))
                      ∙ sym (tries (with T k) j j_lt)
                ];
          }

    module _ (split : T k ≡ true) where
      made_split : (m : Option ℕ) → maker_of h (s_of h k) ≡ m → made_in T m ≡ true
      made_split None e = refl
      made_split (Some i) e = closed k i l split (as_maker (maker_of-makes h i (s_of h k) e))

      own_maker : is_at k (maker_of h (s_of h k)) ≡ false
      own_maker = false_from_ne_true (is_at k (maker_of h (s_of h k)))
          (λ e. not_own h shape k l
          (as_maker (maker_of-makes h k (s_of h k) (is_at-parts k (maker_of h (s_of h k)) e))))

      -- Once it is collapsed
      pub waiting-without : (old a b : List Bool) → AreAnswers h (may_try h T) old
          → AreCleared old a (λ j. is_at j (splitter_of h (t_of h k))) →
          AreCleared a b (λ j. is_at j (splitter_of h (u_of h k)))
          → AreAnswers h (may_try h (without T k)) (set b k true)
      waiting-without old a b are first second =
          let len : length b ≡ record_count h = second.len ∙ first.len ∙ are.len in
          record {
            len = length-set b k true ∙ len;
            each = λ j j_lt.
                let m = maker_of h (s_of h j) in
                let made = made_in T m in
                let t = is_at j (splitter_of h (t_of h k)) in
                let u = is_at j (splitter_of h (u_of h k)) in
                elim (cases_eq j k) [
                  | inl is ↦
                      let n = maker_of h (s_of h k) in
                      let there : made_in (without T k) n ≡ true =
                      grind (
                        arith,
                        common_steps,
                        and_from,
                        made_split,
                        made_without,
                        not_from_false,
                        own_maker,
                      ) in
                      get_or-set_at b k j true false is (omega (arith, len))
                      ∙ sym (ap (may_try h (without T k)) is ∙ tries (without T k) k l
                      ∙ and_from (made_in (without T k) n) (not (without T k k)) there
                      (not_from_false (without T k k) (without-same T k)))
                  | inr other ↦
                      get_or-set_other b k j true false other
                      ∙ second.each j (omega (arith, first.len, are.len))
                      ∙ ap (λ o. o && not u) (first.each j (omega (arith, are.len)))
                      ∙ ap (λ o. (o && not t) && not u) (are.each j j_lt ∙ tries T j j_lt)
                      ∙ wait_less made (T j) t u
                      ∙ ap (λ c. (not c && made) && not (T j)) (sym (children_split j j_lt))
                      ∙ ap (λ o. o && not (T j)) (sym (made_without T k m))
                      ∙ ap (λ o. made_in (without T k) m && not o)
                      (sym (cond-false (eqb j k) false (T j) (ne_eqb j k other)))
                      ∙ sym (tries (without T k) j j_lt)
                ];
          }

  pub roots_more : (root : ℕ) (a b : List Bool) → AreAnswers h (λ k. ltb (s_of h k) root) a
      → AreAdded a b (λ k. is_at k (splitter_of h root)) →
      AreAnswers h (λ k. ltb (s_of h k) (root + 1)) b
  roots_more root a b are added = record {
    len = added.len ∙ are.len;
    each = λ k k_lt.
        let v = s_of h k in
        added.each k (omega (arith, are.len))
        ∙ ap (λ o. o || is_at k (splitter_of h root)) (are.each k k_lt)
        ∙ ap (λ o. ltb v root || o) (splits_at root k k_lt)
        ∙ same_bools (ltb v root || eqb v root) (ltb v (root + 1))
        (λ e. elim (or_cases (ltb v root) (eqb v root) e) [
          | inl less ↦ (let under = ltb-true v root less in lt-ltb v (root + 1) (omega arith))
          | inr at ↦ (let is = eqb-true v root at in lt-ltb v (root + 1) (omega arith))
        ])
        (λ e. let under = ltb-true v (root + 1) e in
        elim (cases_eq v root) [
          | inl is ↦ or_right (ltb v root) (eqb v root) (eq-eqb v root is)
          | inr other ↦ or_left (ltb v root) (eqb v root) (lt-ltb v root (omega arith))
        ]);
  }

  made_none : (b : Bool) (n : ℕ) → made_in no_records (cond b None (Some n)) ≡ b
  made_none true n = refl
  made_none false n = refl

  pub roots_all : (root : ℕ) → root ≡ length h.roots → (a : List Bool)
      → AreAnswers h (λ k. ltb (s_of h k) root) a → AreAnswers h (may_try h no_records) a
  roots_all root is a are = grind (arith, common_steps, and-true, made_none, tries no_records)
