-- What stands in a closed set beyond the sides of a record's faces: what is expected there, or a
-- side of a greater record, and then some record needs this one.
use Rattle.std.proofs.Common.{◌≡◌, ℕ, zero, suc, ◌*◌, ◌<◌, Bool, true, false, Option, Some, None}
use Rattle.std.proofs.lemmas.Grind.{common_steps}
use Rattle.std.proofs.Common.{inl, inr, refl, sym, ◌∙◌, arith}
use Rattle.std.proofs.lemmas.Bool.{lt-ltb, ltb-false, cases_eq}
use Rattle.std.proofs.lemmas.Option.{same_Some}
use Rattle.pm_base.specs.Sides.{face_of}
use Rattle.pm_base.proofs.Search.{option_cases}
use Rattle.pm_forest.specs.Forest.{Hierarchy, record_count}
use Rattle.pm_forest.specs.Fronts.{IsFront, below}
use Rattle.pm_forest.specs.Faces.{face_count, inner_of, record_of, IsForest}
use Rattle.pm_forest.specs.Kept.{is_shown}
use Rattle.pm_forest.specs.Rules.{HasShape}
use Rattle.pm_forest.proofs.FaceNumbers.{record-lt}
use Rattle.pm_forest.proofs.Shown.{shown_record, shown_base, hidden-parts}
use Rattle.pm_forest.proofs.ShapeLaws.{shape_of_nodes, shape_is_forest}
use Rattle.pm_beyond.specs.Walks.{Reaches, StopsAt, Beyond, expected}
use Rattle.pm_beyond.specs.Valid.{IsValid}
use Rattle.pm_beyond.specs.Moves.{Needs, as_maker, as_neighbour, IsClosed, MayCollapse}
use Rattle.pm_beyond.proofs.Across.{across-is_outer, across-lt}
use Rattle.pm_beyond.proofs.Reaching.{reaches-lt, back, Beyond-unique, none_before, some_before}
use Rattle.pm_beyond.proofs.Reaching.{last_shown, none_between, some_between, first_shown}
use Rattle.pm_beyond.proofs.Neighbours.{expected-inner, expected-older}

pub forest_of : (h : Hierarchy) → IsValid h → IsForest h
forest_of h valid = shape_is_forest h valid.shape

-- Just when record k is the last one split, what is expected stands beyond its faces' sides.
pub as_told : (h : Hierarchy) → IsValid h → (k e : ℕ) → e < 3 * face_count h
    → record_of h e ≡ Some k → Beyond h (below (suc k)) e (expected h e)
as_told h valid k e l own =
    let k_lt = record-lt h e k l own in
    elim (cases_eq e (inner_of h k (face_of e))) [
      | inl is ↦ valid.inner k k_lt e l (own, is)
      | inr other ↦ valid.outer k k_lt e l (own, other)
    ]

-- A record that needs another is greater.
pub needs-older : (h : Hierarchy) → HasShape h → (j k : ℕ) → j < record_count h → Needs h j k
    → k < j
needs-older h shape j k l (as_maker m) = let o = (shape_of_nodes h shape).older j l in
    elim m [ inl a ↦ omega arith | inr a ↦ omega arith ]
needs-older h shape j k l (as_neighbour e b m p q r) = expected-older h shape j e b k m p q r

-- A side whose face is dropped while the records up to k are split has a greater record.
pub dropped-parts : (h : Hierarchy) (k e : ℕ) → e < 3 * face_count h
    → is_shown h (below (suc k)) e ≡ false → (j : ℕ) × (record_of h e ≡ Some j) × (k < j)
    × (j < record_count h)
dropped-parts h k e l d =
    let p = hidden-parts h (below (suc k)) e d in
    (p.0, p.1, ltb-false p.0 (suc k) p.2, record-lt h e p.0 l p.1)

pub closed-front : (h : Hierarchy) (T : ℕ → Bool) → IsClosed h T → IsFront h T
closed-front h T closed k j l e makes = closed k j l e (as_maker makes)

pub stops_there : (h : Hierarchy) (T : ℕ → Bool) (r : Option ℕ)
    → ((c : ℕ) → r ≡ Some c → is_shown h T c ≡ true) → StopsAt h T r
stops_there h T None f = tt
stops_there h T (Some c) f = f c refl

module _ (h : Hierarchy) (valid : IsValid h) (T : ℕ → Bool) (closed : IsClosed h T) where
  -- The least record between, as a descent: if the walk from a side of k in {0..k} meets a face of
  -- j in T, then what stands beyond that face in {0..j} is needed by j. It is a face of k, or one
  -- of a still smaller record of T.
  descend : (k o n : ℕ) → o < 3 * face_count h → record_of h o ≡ Some k → (j c : ℕ) → j < n
      → Reaches h (below (suc k)) o (Some c) → record_of h c ≡ Some j → T j ≡ true → k < j
      → (i : ℕ) × (i < record_count h) × (T i ≡ true) × Needs h i k
  descend k o zero l own j c b w r e m = absurd (omega arith)
  descend k o (suc n) l own j c b w r e m =
      let once = valid.no_side_twice in
      let shape = forest_of h valid in
      let c_lt = reaches-lt h shape once (below (suc k)) c w refl in
      let j_lt = record-lt h c j c_lt r in
      let v = as_told h valid j c c_lt r in
      let o_shown : is_shown h (below (suc j)) o ≡ true =
      shown_record h (below (suc j)) o k own ∙ lt-ltb k (suc j) (omega arith) in
      elim (last_shown h shape once (below (suc k)) (below (suc j)) c w refl) [
        | none_before u ↦
            let is = Beyond-unique h shape once (below (suc j)) c (expected h c) (Some o) v
            (record {
              reaches = back h shape once (below (suc j)) c l u refl;
              stops =
                  o_shown;
            }) in
            elim (cases_eq c (inner_of h j (face_of c))) [
              | inl inner ↦ grind (arith, common_steps, expected-inner, same_Some)
              | inr other ↦ (j, j_lt, e, as_neighbour c o c_lt (r, other) is own)
            ]
        | some_before b' c' u d x s z ↦
            let c'_lt = reaches-lt h shape once (below (suc k)) c' u refl in
            let b'_lt = across-lt h c' b' c'_lt x in
            let is = Beyond-unique h shape once (below (suc j)) c (expected h c) (Some b') v
            (record {
              reaches = back h shape once (below (suc j)) c b'_lt z refl;
              stops =
                  s;
            }) in
            let (i, outer_c', outer_b') = across-is_outer h c' b' x in
            elim (cases_eq c (inner_of h j (face_of c))) [
              | inl inner ↦ grind (arith, common_steps, expected-inner, same_Some)
              | inr other ↦
                  let smaller =
                  expected-older h valid.shape j c b' i c_lt (r, other) is outer_b'.0 in
                  let f = closed j i j_lt e (as_neighbour c b' c_lt (r, other) is outer_b'.0) in
                  let p = dropped-parts h k c' c'_lt d in
                  let same : p.0 ≡ i = same_Some p.0 i (sym p.1 ∙ outer_c'.0) in
                  descend k o n l own i c' (omega arith) u outer_c'.0 f (omega arith)
            ]
      ]

  -- What a closed set's record needs is shown.
  expected_shown : (k e : ℕ) → k < record_count h → T k ≡ true → e < 3 * face_count h
      → record_of h e ≡ Some k → (r : Option ℕ) → expected h e ≡ r → StopsAt h T r
  expected_shown k e k_lt f l own None q = tt
  expected_shown k e k_lt f l own (Some b) q =
      elim (cases_eq e (inner_of h k (face_of e))) [
        | inl inner ↦ shown_record h T b k (expected-inner h k e b l (own, inner) q).0 ∙ f
        | inr outer ↦
            elim (option_cases (record_of h b)) [
              | inl n ↦ shown_base h T b n
              | inr (m, r) ↦ shown_record h T b m r
                  ∙ closed k m k_lt f (as_neighbour e b l (own, outer) q r)
            ]
      ]

  -- Beyond a side of a record of the set stands what is expected, or a face of a greater record of
  -- the set.
  pub data Standing (k e : ℕ) : Type 0 where
    as_expected : Beyond h T e (expected h e) → Standing k e
    greater : (c j : ℕ) → Beyond h T e (Some c) → record_of h c ≡ Some j → T j ≡ true → k < j
        → Reaches h (below (suc k)) e (Some c) → Standing k e

  pub standing : (k e : ℕ) → k < record_count h → T k ≡ true → e < 3 * face_count h
      → record_of h e ≡ Some k → Standing k e
  standing k e k_lt f l own =
      let once = valid.no_side_twice in
      let shape = forest_of h valid in
      let v = as_told h valid k e l own in
      elim (first_shown h shape once (below (suc k)) T v.reaches) [
        | none_between w ↦ grind (arith, common_steps, expected_shown)
        | some_between c w d s u ↦
            let p = dropped-parts h k c (reaches-lt h shape once (below (suc k)) c w refl) d in
            greater c p.0 (record { reaches = u; stops = s }) p.1 (sym (shown_record h T c p.0 p.1)
            ∙ s) p.2 w
      ]

  -- If no record of the set needs k, then exactly what is expected stands beyond the sides of its
  -- faces.
  pub unneeded-standing : (k e : ℕ) → k < record_count h → T k ≡ true → e < 3 * face_count h
      → record_of h e ≡ Some k → ((j : ℕ) → j < record_count h → T j ≡ true → Needs h j k → ⊥)
      → Beyond h T e (expected h e)
  unneeded-standing k e k_lt f l own free =
      elim (standing k e k_lt f l own) [
        | as_expected b ↦ b
        | greater c j b r g m w ↦
            (let (i, i_lt, t, needs) = descend k e (suc j) l own j c (omega arith) w r g m in
            absurd (free i i_lt t needs))
      ]

  pub may_collapse-from : (k : ℕ) → k < record_count h → T k ≡ true
      → ((j : ℕ) → j < record_count h → T j ≡ true → Needs h j k → ⊥) → MayCollapse h T k
  may_collapse-from k l e free = grind (arith, common_steps, unneeded-standing k)
