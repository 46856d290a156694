-- A hierarchy that undoes collapses is valid: what stands across a side in the mesh shown is what
-- stands beyond it.
use Rattle.std.proofs.Common.{zero, suc, ◌≡◌, ◌≢◌, ℕ, ◌+◌, ◌-◌, ◌*◌, ◌<◌, ◌≤◌, true, Option, Some}
use Rattle.std.proofs.lemmas.Grind.{common_steps}
use Rattle.std.proofs.Common.{None, ◌⊎◌, inl, inr, refl, sym, ap, ◌∙◌, subst, arith}
use Rattle.std.proofs.Math.Nat.{lt-suc_self}
use Rattle.std.proofs.lemmas.Bool.{cases_Bool, lt-ltb, both_ways}
use Rattle.std.proofs.lemmas.Option.{none-some, same_Some}
use Rattle.pm_base.proofs.Search.{option_cases}
use Rattle.pm_base.specs.Sides.{next, face_of, twin_of, Net, NoSideTwice, Stands}
use Rattle.pm_beyond.proofs.Across.{across_cases, across-outer, across-face}
use Rattle.pm_beyond.proofs.Outer.{is_at-parts, is_at-from}
use Rattle.pm_beyond.proofs.Twins.{twin-is}
use Rattle.pm_beyond.proofs.Reaching.{reaches-lt}
use Rattle.pm_beyond.proofs.Relinking.{stands-outer, collapse-neighbour, collapse-other}
use Rattle.pm_beyond.specs.Moves.{is_at, record_beyond}
use Rattle.pm_beyond.specs.Valid.{IsValid}
use Rattle.pm_beyond.specs.Walks.{leaf_net, leaf_twin, expected, here, StopsAt, Beyond}
use Rattle.pm_forest.proofs.Ancestors.{below-front}
use Rattle.pm_forest.proofs.Ends.{t_first, u_first, inner-lt, next-lt, inner_ends}
use Rattle.pm_forest.proofs.FaceNumbers.{record-lt}
use Rattle.pm_forest.proofs.Flags.{without-below}
use Rattle.pm_forest.proofs.OneStep.{without-parts}
use Rattle.pm_forest.proofs.Shown.{shown_record, shown_base, shown-parts, shown_without}
use Rattle.pm_forest.proofs.Sides.{inner-face}
use Rattle.pm_forest.specs.Faces.{face_count, revealed_by, from_leaf, record_of, inner_of}
use Rattle.pm_forest.specs.Forest.{Hierarchy, record_count, leaf_count, s_of, t_of, u_of}
use Rattle.pm_forest.specs.Fronts.{IsFront, ancestor_of, below, without}
use Rattle.pm_forest.specs.Rules.{HasShape}
use Rattle.pm_base.proofs.TwinLaws.{twin-none}
use Rattle.pm_beyond.proofs.Twins.{side-stands}
use Rattle.pm_forest.specs.Kept.{is_shown}
use Rattle.pm_number.proofs.Renamed.{across-moved, once-moved, no_mirror-moved, stood-before}
use Rattle.pm_firm.proofs.ShownNets.{stands-shown, shown-stands}
use Rattle.pm_number.proofs.ShownNets.{at-t, at-u, shown-fresh, shown-step}
use Rattle.pm_firm.specs.Firm.{shown_net}
use Rattle.pm_number.specs.Shown.{UndoesCollapses}
use Rattle.pm_number.specs.Stages.{Renames, side_moved}
use Rattle.pm_runs.proofs.Across.{across-past, across-kept}
use Rattle.pm_runs.proofs.Apart.{once_after, no_mirror_after}
use Rattle.pm_runs.proofs.Sides.{across-twin, twin-across}
use Rattle.pm_runs.specs.Merged.{IsProper, StandsAcross, merged}
use Rattle.pm_runs.specs.Pairs.{Links}

moved-same : (r : Option ℕ) → side_moved (λ e. e) r ≡ r
moved-same None = refl
moved-same (Some e) = refl

across-unique : (m : Net) → NoSideTwice m → (e : ℕ) (r r' : Option ℕ) → StandsAcross m e r
    → StandsAcross m e r' → r ≡ r'
across-unique m once e r r' a b = sym (across-twin m once e r a) ∙ across-twin m once e r' b

beyond_parts : (h : Hierarchy) (q : Option ℕ) (k : ℕ) → is_at k (record_beyond h q) ≡ true
    → (c : ℕ) × (q ≡ Some c) × (record_of h c ≡ Some k)
beyond_parts h None k own = absurd (none-some k (is_at-parts k None own))
beyond_parts h (Some c) k own = (c, refl, is_at-parts k (record_of h c) own)

module _ (h : Hierarchy) (un : UndoesCollapses h) where
  front : (k : ℕ) → IsFront h (below k)
  front k = below-front h un.shape.forest k

  -- each shown side has beyond it what stands across it
  pub record Agrees (k : ℕ) : Type 0 where
    pub proper : IsProper (shown_net h (below k))
    pub beyond : (a : ℕ) (r : Option ℕ) → a < 3 * face_count h → is_shown h (below k) a ≡ true
        → StandsAcross (shown_net h (below k)) a r → Beyond h (below k) a r

  -- In the full front

  all_shown : (e : ℕ) → e < 3 * face_count h → is_shown h (below (record_count h)) e ≡ true
  all_shown e l =
      grind (arith, common_steps, lt-ltb, option_cases, record-lt, shown_base, shown_record)

  leaf : (e : ℕ) → e < 3 * face_count h → from_leaf h e < leaf_count h
  leaf e l = un.shape.faces.leaves e l

  leaf-across : (a : ℕ) → a < 3 * face_count h → (r : Option ℕ) → leaf_twin h a ≡ r
      → StandsAcross (shown_net h (below (record_count h))) a r
  leaf-across a l None n =
      λ g w.
      let m = w.stands.is_side in
      twin-none (leaf_net h) a n g (record {
        stands = side-stands h un.shape g m;
        begins = un.leaves_apart _ _ (leaf g m) (leaf (next a) (next-lt h un.shape a l)) w.begins;
        ends = un.leaves_apart _ _ (leaf (next g) (next-lt h un.shape g m)) (leaf a l) w.ends;
      })
  leaf-across a l (Some g) is =
      let p = twin-is h a g is in
      let up : ℕ → ℕ = ancestor_of h (below (record_count h)) in
      record {
        stands = stands-shown h un.shape _ (front (record_count h)) g p.2 (all_shown g p.2);
        begins = ap up p.0;
        ends = ap up p.1;
      }

  at_full : Agrees (record_count h)
  at_full = record {
    proper = un.proper;
    beyond = λ a r l s x.
        let same = across-unique (shown_net h (below (record_count h))) un.proper.once a
        (leaf_twin h a) r (leaf-across a l (leaf_twin h a) refl) x in
        record {
          reaches = here same;
          stops = elim (option_cases r) [
            | inl n ↦ subst (StopsAt h (below (record_count h))) (sym n) tt
            | inr (b, is) ↦
                subst (StopsAt h (below (record_count h))) (sym is)
                (all_shown b (twin-is h a b (same ∙ is)).2)
          ];
        };
  }

  -- One collapse

  module _ (k : ℕ) (l : k < record_count h) (upper : Agrees (suc k)) where
    -- the mesh before record k goes, and with t and u merged
    abbrev before : Net
    before = shown_net h (below (suc k))

    abbrev after : Net
    after = merged before (t_of h k) (u_of h k) (s_of h k)

    step : Renames after (shown_net h (below k)) (λ e. e) (λ v. v)
    step = shown-step h un.shape k l

    shown_k : (e : ℕ) → record_of h e ≡ Some k → is_shown h (below (suc k)) e ≡ true
    shown_k e r = shown_record h (below (suc k)) e k r ∙ lt-ltb k (suc k) (lt-suc_self k)

    standing : (e : ℕ) → e < 3 * face_count h → record_of h e ≡ Some k
        → Beyond h (below (suc k)) e (expected h e)
    standing e b r = upper.beyond e (expected h e) b (shown_k e r) (un.recorded e k b r)

    -- a side shown below k is shown with k, and isn't one of k's
    upper_shown : (a : ℕ) → is_shown h (below k) a ≡ true → (is_shown h (below (suc k)) a ≡ true)
        × (record_of h a ≢ Some k)
    upper_shown a s =
        grind (
          arith,
          common_steps,
          none-some,
          same_Some,
          shown-parts,
          shown_base,
          shown_record,
          without-below,
          without-parts,
        )

    lower_shown : (c : ℕ) → is_shown h (below (suc k)) c ≡ true → record_of h c ≢ Some k
        → is_shown h (below k) c ≡ true
    lower_shown c s n =
        subst (λ T. is_shown h T c ≡ true) (without-below k)
        (shown_without h (below (suc k)) k c n s)

    stands_after : (e : ℕ) → e < 3 * face_count h → is_shown h (below k) e ≡ true → Stands after e
    stands_after e b s =
        stood-before after (shown_net h (below k)) (λ e. e) (λ v. v) step e b
        (stands-shown h un.shape (below k) (front k) e b s)

    -- the inner side of a face of k links t and u
    inner-links : (c : ℕ) → c < 3 * face_count h → record_of h c ≡ Some k
        → Links before (inner_of h k (face_of c)) (t_of h k) (u_of h k)
    inner-links c b r =
        grind (
          arith,
          common_steps,
          shown_k,
          t_first,
          u_first,
          at-t h un.shape.forest k l,
          at-u h un.shape.forest k l,
          front (suc k),
          inner-face h k (face_of c),
          inner-lt h un.shape k c b,
          inner_ends h un.shape k (face_of c),
          stands-shown h un.shape (below (suc k)) (front (suc k)),
        )

    new_beyond : (a : ℕ) → a < 3 * face_count h → is_shown h (below k) a ≡ true → (q : Option ℕ)
        → twin_of before a ≡ q → (r : Option ℕ) × Beyond h (without (below (suc k)) k) a r
        × StandsAcross after a r
    new_beyond a b s q is =
        let up = upper_shown a s in
        let old = twin-across before a q is in
        let far = upper.beyond a q b up.0 old in
        let st = stands_after a b s in
        elim (cases_Bool (is_at k (record_beyond h q))) [
          | inl own ↦
              let (c, q_is, r) : (c : ℕ) × (q ≡ Some c) × (record_of h c ≡ Some k) =
              beyond_parts h q k own in
              let far' = subst (Beyond h (below (suc k)) a) q_is far in
              let c_lt = reaches-lt h un.shape un.no_side_twice (below (suc k)) c far'.reaches
              refl in
              let outer = stands-outer h un.shape un.no_side_twice (below (suc k)) k standing
              (λ e b. un.older e k b) a c b c_lt up.0 up.1 far' r in
              let (o, x) = across-outer h k c outer.0 in
              let (k', r', way) = across_cases h c o x in
              let same : k' ≡ k = same_Some k' k (sym r' ∙ r) in
              let o_lt : o < 3 * face_count h = (let f = across-face h c o x in omega arith) in
              let o_record : record_of h o ≡ Some k =
              ap (λ f. revealed_by h f) (across-face h c o x) ∙ r in (
                expected h o,
                collapse-neighbour h un.shape un.no_side_twice (below (suc k)) k standing
                    (λ e b. un.older e k b) a c o b c_lt far' r x,
                across-past before (t_of h k) (u_of h k) (s_of h k) (shown-fresh h un.shape k l)
                    (un.apart k l) upper.proper a c o st (subst (StandsAcross before a) q_is old) (
                      inner_of h k (face_of c),
                      inner-links c c_lt r,
                      subst (λ n. ((c ≡ next (inner_of h n (face_of c)))
                          × (o ≡ next (next (inner_of h n (face_of c)))))
                          ⊎ ((c ≡ next (next (inner_of h n (face_of c))))
                          × (o ≡ next (inner_of h n (face_of c))))) same way,
                    )
                    (expected h o) (un.recorded o k o_lt o_record),
              )
          | inr other ↦
              let not_own : (c : ℕ) → q ≡ Some c → record_of h c ≢ Some k =
              λ c z r. both_ways _ other
              (is_at-from k (record_beyond h q) (ap (record_beyond h) z ∙ r)) in (
                q,
                collapse-other h un.shape un.no_side_twice (below (suc k)) k standing
                    (λ e b. un.older e k b) a q far not_own,
                across-kept before (t_of h k) (u_of h k) (s_of h k) (shown-fresh h un.shape k l)
                    (un.apart k l) upper.proper a q st old (λ c z.
                    let w = subst (StandsAcross before a) z old in
                    stands_after c w.stands.is_side
                    (lower_shown c
                    (shown-stands h un.shape (below (suc k)) (front (suc k)) c w.stands)
                    (not_own c z))),
              )
        ]

    lower : Agrees k
    lower =
        let fresh = shown-fresh h un.shape k l in
        let once = once-moved after (shown_net h (below k)) (λ e. e) (λ v. v) step
        (once_after before (t_of h k) (u_of h k) (s_of h k) fresh (un.apart k l)
        upper.proper.once) in
        let none = no_mirror-moved after (shown_net h (below k)) (λ e. e) (λ v. v) step
        (no_mirror_after before (t_of h k) (u_of h k) (s_of h k) fresh (un.apart k l)
        upper.proper.once upper.proper.no_mirror) in
        record {
          proper = record { once = once; no_mirror = none };
          beyond = λ a r b s x.
              let (q, far, near) = new_beyond a b s (twin_of before a) refl in
              let near' = subst (StandsAcross (shown_net h (below k)) a) (moved-same q)
              (across-moved after (shown_net h (below k)) (λ e. e) (λ v. v) step a q b near) in
              let same = across-unique (shown_net h (below k)) once a q r near' x in
              subst (Beyond h (below k) a) same (subst (λ T. Beyond h T a q) (without-below k) far);
        }

  -- All the way down
  descend : (d k : ℕ) → k + d ≡ record_count h → Agrees k
  descend zero k e = subst Agrees (omega arith) at_full
  descend (suc d) k e = lower k (omega arith) (descend d (suc k) (omega arith))

  pub across-is_beyond : (k : ℕ) → k ≤ record_count h → Agrees k
  across-is_beyond k l = descend (record_count h - k) k (omega arith)

  as_told : (e k : ℕ) → e < 3 * face_count h → record_of h e ≡ Some k
      → Beyond h (below (suc k)) e (expected h e)
  as_told e k l r =
      let b = record-lt h e k l r in
      (across-is_beyond (suc k) b).beyond e (expected h e) l (shown_record h (below (suc k)) e k r
      ∙ lt-ltb k (suc k) (lt-suc_self k)) (un.recorded e k l r)

  pub valid : HasShape h → IsValid h
  valid shape = record {
    shape = shape;
    no_side_twice = un.no_side_twice;
    outer = λ k l e m o. as_told e k m o.0;
    inner = λ k l e m o. as_told e k m o.0;
  }
