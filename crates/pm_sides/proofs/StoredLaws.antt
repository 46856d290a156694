-- The table of what stands beyond the sides in the full front, and as a split writes to it: each
-- write is right by itself, and what isn't written stays right.
use Rattle.std.proofs.Common.{◌≡◌, ◌≢◌, ℕ, ◌+◌, ◌*◌, ◌<◌, ◌≤◌, Bool, true, false, Option, Some}
use Rattle.std.proofs.Common.{None, List, length, get_or, ◌⊎◌, inl, inr, refl, sym, ap, ◌∙◌}
use Rattle.std.proofs.Common.{subst, arith, get_or-set_same, get_or-set_other}
use Rattle.std.proofs.Math.ListN.{set}
use Rattle.std.proofs.lemmas.List.{length-set}
use Rattle.std.proofs.lemmas.Bool.{cases_eq, both_ways, false_from_ne_true}
use Rattle.std.proofs.lemmas.Option.{none-some, same_Some}
use Rattle.pm_base.specs.Sides.{beside_side}
use Rattle.pm_forest.specs.Forest.{Hierarchy, record_count}
use Rattle.pm_forest.specs.Fronts.{every, with}
use Rattle.pm_forest.specs.Faces.{first_face, face_count, record_of}
use Rattle.pm_forest.specs.Kept.{is_shown}
use Rattle.pm_forest.proofs.OneStep.{with-same}
use Rattle.pm_forest.proofs.Shown.{shown_record}
use Rattle.pm_beyond.specs.Walks.{leaf_twin, IsOuter, Beyond, expected}
use Rattle.pm_beyond.specs.Valid.{IsValid}
use Rattle.pm_beyond.specs.Moves.{IsClosed, MaySplit}
use Rattle.pm_beyond.proofs.Reaching.{stops_at, reaches-lt, back, Beyond-unique}
use Rattle.pm_beyond.proofs.Standing.{forest_of}
use Rattle.pm_beyond.proofs.Twins.{shown_every}
use Rattle.pm_sides.specs.Stored.{AreStored, put_beside}
use Rattle.pm_forest.proofs.Shown.{shown_with, shown_with-parts}
use Rattle.pm_sides.proofs.RecordSides.{record-corner_of}
use Rattle.pm_beyond.proofs.Relinking.{split-new, split-other}

-- ---- one write

pub stored-set_same : (table : List (Option ℕ)) (a b : ℕ) (o : Option ℕ) → a ≡ b → b < length table
    → beside_side (set table b o) a ≡ o
stored-set_same table a b o is l =
    ap (λ i. get_or (set table b o) i None) is ∙ get_or-set_same table b o None l

pub stored-set_other : (table : List (Option ℕ)) (a b : ℕ) (o : Option ℕ) → a ≢ b
    → beside_side (set table b o) a ≡ beside_side table a
stored-set_other table a b o n = get_or-set_other table b a o None n

pub length-put_beside : (table : List (Option ℕ)) (a b : Option ℕ)
    → length (put_beside table a b) ≡ length table
length-put_beside table None b = refl
length-put_beside table (Some a) b = length-set table a b

-- ---- the full front

pub full-stored : (h : Hierarchy) (table : List (Option ℕ)) → length table ≡ 3 * face_count h
    → ((a : ℕ) → a < 3 * face_count h → beside_side table a ≡ leaf_twin h a) →
    ((a : ℕ) → a < 3 * face_count h → Beyond h every a (leaf_twin h a)) → AreStored h every table
full-stored h table len twins full = record {
  sides = len;
  shown = λ a l s. subst (Beyond h every a) (sym (twins a l)) (full a l);
  hidden = λ a l d. absurd (both_ways (is_shown h every a) d (shown_every h a));
}

-- ---- a split

-- The sides of record k below n have been gone through. W is the set with k.
pub record SplitLinks (h : Hierarchy) (T : ℕ → Bool) (k n : ℕ) (old now : List (Option ℕ)) : Type 0
  where
    pub sides : length now ≡ 3 * face_count h
    pub own : (e : ℕ) → e < 3 * face_count h → record_of h e ≡ Some k
        → beside_side now e ≡ expected h e
    pub hidden : (a : ℕ) → a < 3 * face_count h → is_shown h (with T k) a ≡ false
        → beside_side now a ≡ expected h a
    pub shown :
        (a : ℕ) → a < 3 * face_count h → is_shown h T a ≡ true
        → Beyond h (with T k) a (beside_side now a)
        ⊎ ((beside_side now a ≡ beside_side old a)
        × ((e : ℕ) → e < n → e < 3 * face_count h → IsOuter h k e → expected h e ≢ Some a))

module _ (h : Hierarchy) (valid : IsValid h) (T : ℕ → Bool) (closed : IsClosed h T) (k : ℕ)
    (k_lt : k < record_count h) (may : MaySplit h T k) (old : List (Option ℕ))
    (was : AreStored h T old) where
  abbrev W : ℕ → Bool
  W = with T k

  hidden_k : (e : ℕ) → record_of h e ≡ Some k → is_shown h T e ≡ false
  hidden_k e own = shown_record h T e k own ∙ may.unsplit

  pub split-begins : SplitLinks h T k (3 * first_face h k) old old
  split-begins = record {
    sides = was.sides;
    own = λ e l own. was.hidden e l (hidden_k e own);
    hidden = λ a l d. was.hidden a l
        (false_from_ne_true (is_shown h T a)
        (λ s. both_ways (is_shown h W a) d (shown_with h T k a s)));
    shown = λ a l s. inr (
      refl,
      λ e low m outer. absurd (let p = record-corner_of h k e m outer.0 in
          omega (arith, p.0)),
    );
  }

  -- a side beside which nothing is told
  pub split-none : (n : ℕ) (now : List (Option ℕ)) → SplitLinks h T k n old now
      → n < 3 * face_count h → record_of h n ≡ Some k → beside_side now n ≡ None
      → SplitLinks h T k (n + 1) old now
  split-none n now links l own none = record {
    sides = links.sides;
    own = links.own;
    hidden = links.hidden;
    shown = λ a m s. elim (links.shown a m s) [
      | inl right ↦ inl right
      | inr kept ↦ inr (
        kept.0,
        λ e low e_lt outer is. elim (cases_eq e n) [
          | inl at ↦ none-some a (sym none ∙ links.own n l own ∙ ap (expected h) (sym at) ∙ is)
          | inr other ↦ kept.1 e (omega arith) e_lt outer is
        ],
      )
    ];
  }

  -- a side beside which side b is told
  pub split-lt : (n b : ℕ) (now : List (Option ℕ)) → SplitLinks h T k n old now
      → n < 3 * face_count h → record_of h n ≡ Some k → beside_side now n ≡ Some b
      → b < 3 * face_count h
  split-lt n b now links l own is =
      reaches-lt h (forest_of h valid) valid.no_side_twice W b
      (split-new h valid T k closed k_lt may n l own).reaches (sym (links.own n l own) ∙ is)

  pub split-some : (n b : ℕ) (now : List (Option ℕ)) → SplitLinks h T k n old now
      → n < 3 * face_count h → record_of h n ≡ Some k → beside_side now n ≡ Some b →
      SplitLinks h T k (n + 1) old (set now b (Some n))
  split-some n b now links l own is =
      let tree = forest_of h valid in
      let once = valid.no_side_twice in
      let b_lt = split-lt n b now links l own is in
      let b_in : b < length now = omega (arith, links.sides) in
      let told : expected h n ≡ Some b = sym (links.own n l own) ∙ is in
      let beyond_n = split-new h valid T k closed k_lt may n l own in
      let b_shown : is_shown h W b ≡ true =
      stops_at h tree once W (expected h n) b beyond_n.stops told in
      let n_shown : is_shown h W n ≡ true = shown_record h W n k own ∙ with-same T k in
      let beyond_b : Beyond h W b (Some n) =
      record { reaches = back h tree once W b l beyond_n.reaches told; stops = n_shown } in
      record {
        sides = length-set now b (Some n) ∙ links.sides;
        own = λ e e_lt e_own. elim (cases_eq e b) [
          | inl at ↦
              let b_own : record_of h b ≡ Some k = subst (λ i. record_of h i ≡ Some k) at e_own in
              stored-set_same now e b (Some n) at b_in
              ∙ Beyond-unique h tree once W b (Some n) (expected h b) beyond_b
              (split-new h valid T k closed k_lt may b b_lt b_own) ∙ ap (expected h) (sym at)
          | inr other ↦ stored-set_other now e b (Some n) other ∙ links.own e e_lt e_own
        ];
        hidden = λ a a_lt d. elim (cases_eq a b) [
          | inl at ↦ absurd
              (both_ways (is_shown h W b) (subst (λ i. is_shown h W i ≡ false) at d) b_shown)
          | inr other ↦ stored-set_other now a b (Some n) other ∙ links.hidden a a_lt d
        ];
        shown = λ a a_lt s. elim (cases_eq a b) [
          | inl at ↦ inl (subst (λ i. Beyond h W i (beside_side (set now b (Some n)) a)) (sym at)
              (subst (Beyond h W b) (sym (stored-set_same now a b (Some n) at b_in)) beyond_b))
          | inr other ↦
              let same = stored-set_other now a b (Some n) other in
              elim (links.shown a a_lt s) [
                | inl right ↦ inl (subst (Beyond h W a) (sym same) right)
                | inr kept ↦ inr (
                  same ∙ kept.0,
                  λ e low e_lt outer q. elim (cases_eq e n) [
                    | inl at ↦ other (same_Some a b (sym q ∙ ap (expected h) at ∙ told))
                    | inr before ↦ kept.1 e (omega arith) e_lt outer q
                  ],
                )
              ]
        ];
      }

  pub split-ends : (n : ℕ) (now : List (Option ℕ)) → SplitLinks h T k n old now
      → 3 * first_face h (k + 1) ≤ n → AreStored h W now
  split-ends n now links all = record {
    sides = links.sides;
    shown = λ a l s. elim (shown_with-parts h T k a s) [
      | inl own ↦ subst (Beyond h W a) (sym (links.own a l own))
          (split-new h valid T k closed k_lt may a l own)
      | inr before ↦ elim (links.shown a l before) [
        | inl right ↦ right
        | inr kept ↦
            subst (Beyond h W a) (sym kept.0)
            (split-other h valid T k closed k_lt may a (beside_side old a) l before
            (was.shown a l before) (λ e e_lt outer.
            kept.1 e (let p = record-corner_of h k e e_lt outer.0 in omega (arith, p.1)) e_lt
            outer))
      ]
    ];
    hidden = links.hidden;
  }
