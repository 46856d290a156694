-- What one split and one collapse change of what stands beyond the sides. For a collapse neither a
-- valid hierarchy nor a closed set is asked for, so that the opening may cite it.
use Rattle.std.proofs.Common.{◌≡◌, ◌≢◌, ℕ, ◌*◌, ◌<◌, Bool, true, false, Option, Some, None, inl}
use Rattle.std.proofs.lemmas.Grind.{common_steps}
use Rattle.std.proofs.Common.{inr, refl, sym, ap, ◌∙◌, subst, arith}
use Rattle.std.proofs.lemmas.Bool.{cases_eq, both_ways, false_from_ne_true}
use Rattle.std.proofs.lemmas.Option.{same_Some}
use Rattle.pm_base.specs.Sides.{NoSideTwice, face_of}
use Rattle.pm_forest.specs.Forest.{Hierarchy, record_at, record_count}
use Rattle.pm_forest.specs.Fronts.{with, without}
use Rattle.pm_forest.specs.Faces.{first_face, face_count, revealed_by, inner_of, record_of}
use Rattle.pm_forest.specs.Faces.{IsForest}
use Rattle.pm_forest.specs.Kept.{is_shown}
use Rattle.pm_forest.proofs.FaceNumbers.{first_face-mono, revealed-parts, record-lt}
use Rattle.pm_forest.proofs.OneStep.{with-cases, with-same, without-parts}
use Rattle.pm_forest.proofs.Shown.{shown_record, hidden-parts, shown_with, shown_without}
use Rattle.pm_forest.specs.Rules.{HasShape}
use Rattle.pm_forest.specs.Moves.{neighbours_of}
use Rattle.pm_forest.proofs.ShapeLaws.{shape_is_forest}
use Rattle.pm_forest.proofs.FaceLimits.{neighbours_of-older}
use Rattle.pm_beyond.specs.RelinkingLaws as law
use Rattle.pm_beyond.specs.Walks.{leaf_net, across, IsOuter, StopsAt, Beyond, expected}
use Rattle.pm_beyond.specs.Valid.{IsValid}
use Rattle.pm_beyond.specs.Moves.{Needs, IsClosed, MaySplit}
use Rattle.pm_beyond.proofs.Across.{across-face, across-is_outer, across-lt}
use Rattle.pm_beyond.proofs.Reaching.{append, reaches-lt, back, Beyond-unique, fewer, none_between}
use Rattle.pm_beyond.proofs.Reaching.{some_between, first_shown}
use Rattle.pm_beyond.proofs.Distinct.{all-in}
use Rattle.pm_beyond.proofs.Neighbours.{expected-inner, recorded-in}
use Rattle.pm_beyond.proofs.Standing.{forest_of, needs-older, unneeded-standing}
use Rattle.pm_beyond.proofs.Closed.{split-closed}

module _ (h : Hierarchy) (shape : IsForest h) (once : NoSideTwice (leaf_net h)) (T : ℕ
    → Bool) (k : ℕ) (standing : (e : ℕ) → e < 3 * face_count h → record_of h e ≡ Some k
    → Beyond h T e (expected h e))
    (older : (e b : ℕ) → e < 3 * face_count h → IsOuter h k e → expected h e ≡ Some b
    → b < 3 * first_face h k) where
  -- a side of another record's face stands beyond an outer side of k's faces, where it stands
  -- beyond one at all
  pub stands-outer : (a c : ℕ) → a < 3 * face_count h → c < 3 * face_count h → is_shown h T a ≡ true
      → record_of h a ≢ Some k → Beyond h T a (Some c) → record_of h c ≡ Some k
      → IsOuter h k c × (expected h c ≡ Some a)
  stands-outer a c l m s n b r =
      let is = Beyond-unique h shape once T c (expected h c) (Some a) (standing c m r)
      (record { reaches = back h shape once T c l b.reaches refl; stops = s }) in
      elim (cases_eq c (inner_of h k (face_of c))) [
        | inl inner ↦ absurd (n (expected-inner h k c a m (r, inner) is).0)
        | inr outer ↦ ((r, outer), is)
      ]

  older_stops : (o : ℕ) → o < 3 * face_count h → IsOuter h k o → (r : Option ℕ) → expected h o ≡ r
      → StopsAt h T r → StopsAt h (without T k) r
  older_stops o l outer None q s = tt
  older_stops o l outer (Some b) q s =
      shown_without h T k b (λ r.
      let p = older o b l outer q in
      let all = first_face-mono h k (record_count h) (let n = record-lt h o k l outer.0 in
      omega arith) in
      let there : face_of b < face_count h = omega arith in
      let parts = revealed-parts h (face_of b) k there r in
      omega arith) s

  -- what stood beyond a recorded neighbour is k's face; then what stands beyond that face's other
  -- outer side stands there
  pub collapse-neighbour : (a c o : ℕ) → a < 3 * face_count h → c < 3 * face_count h
      → Beyond h T a (Some c) → record_of h c ≡ Some k → across h c ≡ Some o
      → Beyond h (without T k) a (expected h o)
  collapse-neighbour a c o l m b r x =
      let W = without T k in
      let less : (j : ℕ) → W j ≡ true → T j ≡ true = λ j e. (without-parts T k j e).1 in
      let o_record : record_of h o ≡ Some k = ap (λ f. revealed_by h f) (across-face h c o x) ∙ r in
      let (i, _, outer') = across-is_outer h c o x in
      let same : i ≡ k = same_Some i k (sym outer'.0 ∙ o_record) in
      let outer : IsOuter h k o = subst (λ j. IsOuter h j o) same outer' in
      let o_lt = across-lt h c o m x in
      let next = standing o o_lt o_record in
      let hidden : W k ≡ false = false_from_ne_true _ (λ e. (without-parts T k k e).0 refl) in
      record {
        reaches = append h shape once W (fewer h T W less b.reaches) refl (shown_record h W c k r
            ∙ hidden) x (fewer h T W less next.reaches);
        stops = older_stops o o_lt outer (expected h o) refl next.stops;
      }

  other_stops : (r : Option ℕ) → ((c : ℕ) → r ≡ Some c → record_of h c ≢ Some k) → StopsAt h T r
      → StopsAt h (without T k) r
  other_stops None n s = tt
  other_stops (Some c) n s = shown_without h T k c (n c refl) s

  -- every other side keeps what stands beyond it
  pub collapse-other : (a : ℕ) (r : Option ℕ) → Beyond h T a r
      → ((c : ℕ) → r ≡ Some c → record_of h c ≢ Some k) → Beyond h (without T k) a r
  collapse-other a r b n = grind (arith, common_steps, fewer, other_stops, without-parts)

module _ (h : Hierarchy) (valid : IsValid h) (T : ℕ → Bool) (k : ℕ) where
  -- A split in a closed set.
  module _ (closed : IsClosed h T) (k_lt : k < record_count h) (may : MaySplit h T k) where
    not_needed : (j : ℕ) → j < record_count h → with T k j ≡ true → Needs h j k → ⊥
    not_needed j m e needs =
        elim (with-cases T k j e) [
          | inl is ↦ (let older = needs-older h valid.shape j k m needs in absurd (omega arith))
          | inr f ↦ both_ways _ may.unsplit (closed j k m f needs)
        ]

    -- the new sides have beyond them what is expected
    pub split-new : (e : ℕ) → e < 3 * face_count h → record_of h e ≡ Some k
        → Beyond h (with T k) e (expected h e)
    split-new e l r =
        unneeded-standing h valid (with T k) (split-closed h valid T closed k k_lt may) k e k_lt
        (with-same T k) l r not_needed

    -- so the recorded neighbours of the outer sides have these beyond them
    pub split-neighbour : (e b : ℕ) → e < 3 * face_count h → IsOuter h k e → expected h e ≡ Some b
        → Beyond h (with T k) b (Some e)
    split-neighbour e b l outer q =
        let w = (split-new e l outer.0).reaches in
        record {
          reaches = back h (forest_of h valid) valid.no_side_twice (with T k) b l w q;
          stops = shown_record h (with T k) e k outer.0 ∙ with-same T k;
        }

    more_stops : (r : Option ℕ) → StopsAt h T r → StopsAt h (with T k) r
    more_stops None s = tt
    more_stops (Some c) s = shown_with h T k c s

    -- and every other side keeps what stands beyond it
    pub split-other : (a : ℕ) (r : Option ℕ) → a < 3 * face_count h → is_shown h T a ≡ true
        → Beyond h T a r → ((e : ℕ) → e < 3 * face_count h → IsOuter h k e → expected h e ≢ Some a)
        → Beyond h (with T k) a r
    split-other a r l s b n =
        let once = valid.no_side_twice in
        let tree = forest_of h valid in
        elim (first_shown h tree once T (with T k) b.reaches) [
          | none_between w ↦ record { reaches = w; stops = more_stops r b.stops }
          | some_between c w d t u ↦
              let p = hidden-parts h T c d in
              let c_lt = reaches-lt h tree once T c w refl in
              let e : with T k p.0 ≡ true = sym (shown_record h (with T k) c p.0 p.1) ∙ t in
              elim (with-cases T k p.0 e) [
                | inr f ↦ absurd (both_ways _ p.2 f)
                | inl is ↦
                    let own : record_of h c ≡ Some k = p.1 ∙ ap Some is in
                    let back_a = back h tree once (with T k) c l u refl in
                    let same = Beyond-unique h tree once (with T k) c (expected h c) (Some a)
                    (split-new c c_lt own)
                    (record { reaches = back_a; stops = shown_with h T k a s }) in
                    elim (cases_eq c (inner_of h k (face_of c))) [
                      | inl inner ↦
                          let q = expected-inner h k c a c_lt (own, inner) same in
                          absurd (both_ways _ may.unsplit (sym (shown_record h T a k q.0) ∙ s))
                      | inr outer ↦ absurd (n c c_lt (own, outer) same)
                    ]
              ]
        ]

-- what a record names is older
pub older-side : (h : Hierarchy) → HasShape h → (k : ℕ) → k < record_count h → (e b : ℕ)
    → e < 3 * face_count h → IsOuter h k e → expected h e ≡ Some b → b < 3 * first_face h k
older-side h shape k l e b e_lt outer is =
    all-in (λ n. n < 3 * first_face h k) (neighbours_of (record_at h k))
    (neighbours_of-older h shape k l) b (recorded-in h k e b e_lt outer is)

-- the laws

pub splits : law.SplitsRelinkTheirNeighbours
splits h valid T closed k l may = record {
  own = split-new h valid T k closed l may;
  neighbour = split-neighbour h valid T k closed l may;
  other = split-other h valid T k closed l may;
}

pub collapses : law.CollapsesRelinkTheirNeighbours
collapses h shape once T k l standing =
    let tree = shape_is_forest h shape in
    let older = older-side h shape k l in
    record {
      outer = stands-outer h tree once T k standing older;
      neighbour = collapse-neighbour h tree once T k standing older;
      other = collapse-other h tree once T k standing older;
    }
