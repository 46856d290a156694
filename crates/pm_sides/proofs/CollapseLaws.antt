-- The table of what stands beyond the sides, as a collapse writes to it: for each face of the
-- record what stood beyond one of its outer sides is stored beside what stood beyond the other.
use Rattle.std.proofs.Common.{◌≡◌, ◌≢◌, ℕ, ◌+◌, ◌*◌, ◌<◌, ◌≤◌, Bool, true, false, Option, Some}
use Rattle.std.proofs.Common.{None, IfSome, List, length, ◌⊎◌, inl, inr, refl, sym, ap, ◌∙◌, subst}
use Rattle.std.proofs.Common.{arith}
use Rattle.std.proofs.Math.ListN.{set}
use Rattle.std.proofs.lemmas.List.{length-set}
use Rattle.std.proofs.lemmas.Bool.{cases_eq, cases_Bool, cases_lt, both_ways}
use Rattle.std.proofs.lemmas.Option.{none-some, same_Some}
use Rattle.pm_base.specs.declared.ids.Side.{Side}
use Rattle.pm_base.specs.Sides.{NoSideTwice, beside_side, next}
use Rattle.pm_base.proofs.Search.{option_cases}
use Rattle.pm_forest.specs.Forest.{Hierarchy, record_count}
use Rattle.pm_forest.specs.Fronts.{without}
use Rattle.pm_forest.specs.Faces.{first_face, face_count, revealed_by, record_of}
use Rattle.pm_forest.specs.Faces.{inner_of, IsForest}
use Rattle.pm_forest.specs.Kept.{is_shown}
use Rattle.pm_forest.proofs.Shown.{shown_record, shown_without, shown_without-parts}
use Rattle.pm_forest.specs.Rules.{HasShape}
use Rattle.pm_forest.proofs.ShapeLaws.{shape_is_forest}
use Rattle.pm_beyond.specs.Walks.{leaf_net, across, number_of, IsOuter, Beyond, expected}
use Rattle.pm_beyond.proofs.Reaching.{stops_at, reaches-lt, back, Beyond-unique}
use Rattle.pm_beyond.proofs.Relinking.{older-side, stands-outer, collapse-neighbour, collapse-other}
use Rattle.pm_sides.specs.Stored.{AreStored, put_beside}
use Rattle.pm_sides.proofs.OuterSides.{first-face, second-face, first-outer, second-outer}
use Rattle.pm_sides.proofs.OuterSides.{from_first, from_second, outer_cases}
use Rattle.pm_sides.proofs.RecordSides.{record-corner_of}
use Rattle.pm_sides.proofs.StoredLaws.{stored-set_same, stored-set_other}

-- Of record k's sides those that `done` has have been gone through.
pub record CollapseLinks (h : Hierarchy) (T : ℕ → Bool) (k : ℕ) (done : ℕ → Type 0)
    (old now : List (Option ℕ)) : Type 0 where
  pub sides : length now ≡ 3 * face_count h
  pub own : (e : ℕ) → e < 3 * face_count h → record_of h e ≡ Some k
      → beside_side now e ≡ expected h e
  pub hidden : (a : ℕ) → a < 3 * face_count h → is_shown h T a ≡ false
      → beside_side now a ≡ expected h a
  pub shown :
      (a : ℕ) → a < 3 * face_count h → is_shown h (without T k) a ≡ true
      → Beyond h (without T k) a (beside_side now a)
      ⊎ ((beside_side now a ≡ beside_side old a)
      × ((e : ℕ) → done e → e < 3 * face_count h → IsOuter h k e → expected h e ≢ Some a))

-- The faces of record k below f have been gone through.
abbrev pub LinkedBelow : Hierarchy → (ℕ → Bool) → ℕ → ℕ → List (Option ℕ) → List (Option ℕ)
    → Type 0
LinkedBelow h T k f old now = CollapseLinks h T k (λ e. e < 3 * f) old now

-- Record k is split and as told, and the table is that of the front.
pub record MayLinkOver (h : Hierarchy) (T : ℕ → Bool) (k : ℕ) (old : List (Option ℕ)) : Type 0 where
  pub tree : IsForest h
  pub once : NoSideTwice (leaf_net h)
  pub is_record : k < record_count h
  pub is_split : T k ≡ true
  pub standing : (e : ℕ) → e < 3 * face_count h → record_of h e ≡ Some k
      → Beyond h T e (expected h e)
  pub older : (e b : ℕ) → e < 3 * face_count h → IsOuter h k e → expected h e ≡ Some b
      → b < 3 * first_face h k
  pub was : AreStored h T old

pub may-link_over : (h : Hierarchy) → HasShape h → NoSideTwice (leaf_net h) → (T : ℕ → Bool)
    → (k : ℕ) → k < record_count h → T k ≡ true
    → ((e : ℕ) → e < 3 * face_count h → record_of h e ≡ Some k → Beyond h T e (expected h e))
    → (old : List (Option ℕ)) → AreStored h T old → MayLinkOver h T k old
may-link_over h shape once T k l split standing old was = record {
  tree = shape_is_forest h shape;
  once = once;
  is_record = l;
  is_split = split;
  standing = standing;
  older = older-side h shape k l;
  was = was;
}

module _ (h : Hierarchy) (T : ℕ → Bool) (k : ℕ) (old : List (Option ℕ))
    (may : MayLinkOver h T k old) where
  abbrev V : ℕ → Bool
  V = without T k

  shown_k : (e : ℕ) → record_of h e ≡ Some k → is_shown h T e ≡ true
  shown_k e own = shown_record h T e k own ∙ may.is_split

  pub collapse-begins : LinkedBelow h T k (first_face h k) old old
  collapse-begins = record {
    sides = may.was.sides;
    own = λ e l own. Beyond-unique h may.tree may.once T e (beside_side old e) (expected h e)
        (may.was.shown e l (shown_k e own)) (may.standing e l own);
    hidden = may.was.hidden;
    shown = λ a l s. inr (
      refl,
      λ e low m outer. absurd (let p = record-corner_of h k e m outer.0 in
          omega (arith, p.0)),
    );
  }

  -- beside an outer side nothing is told
  none-written : (done : ℕ → Type 0) (n : ℕ) (now : List (Option ℕ))
      → CollapseLinks h T k done old now → expected h n ≡ None
      → CollapseLinks h T k (λ e. done e ⊎ (e ≡ n)) old now
  none-written done n now links none = record {
    sides = links.sides;
    own = links.own;
    hidden = links.hidden;
    shown = λ a m s. elim (links.shown a m s) [
      | inl right ↦ inl right
      | inr kept ↦ inr (
        kept.0,
        λ e before e_lt outer is. elim before [
          | inl early ↦ kept.1 e early e_lt outer is
          | inr at ↦ none-some a (sym none ∙ ap (expected h) (sym at) ∙ is)
        ],
      )
    ];
  }

  -- beside an outer side b is told: then what is told beside the other outer side stands beyond b
  some-written : (done : ℕ → Type 0) (n b o : ℕ) (value : Option ℕ) (now : List (Option ℕ))
      → CollapseLinks h T k done old now → n < 3 * face_count h → IsOuter h k n
      → across h n ≡ Some o → expected h n ≡ Some b → value ≡ expected h o
      → CollapseLinks h T k (λ e. done e ⊎ (e ≡ n)) old (set now b value)
  some-written done n b o value now links l outer over told is =
      let low = may.older n b l outer told in
      let b_lt = reaches-lt h may.tree may.once T b (may.standing n l outer.0).reaches told in
      let b_in : b < length now = omega (arith, links.sides) in
      let b_other : record_of h b ≢ Some k =
      λ own. (let p = record-corner_of h k b b_lt own in omega (arith, p.0)) in
      let b_shown : is_shown h T b ≡ true =
      stops_at h may.tree may.once T (expected h n) b (may.standing n l outer.0).stops told in
      let beyond_b : Beyond h T b (Some n) =
      record {
        reaches = back h may.tree may.once T b l (may.standing n l outer.0).reaches told;
        stops = shown_k n outer.0;
      } in
      let after : Beyond h V b (expected h o) =
      collapse-neighbour h may.tree may.once T k may.standing may.older b n o b_lt l beyond_b
      outer.0 over in
      let put : (a : ℕ) → a ≡ b → beside_side (set now b value) a ≡ expected h o =
      λ a at. stored-set_same now a b value at b_in ∙ is in
      record {
        sides = length-set now b value ∙ links.sides;
        own = λ e e_lt e_own. elim (cases_eq e b) [
          | inl at ↦ absurd (b_other (subst (λ i. record_of h i ≡ Some k) at e_own))
          | inr other ↦ stored-set_other now e b value other ∙ links.own e e_lt e_own
        ];
        hidden = λ a a_lt d. elim (cases_eq a b) [
          | inl at ↦ absurd
              (both_ways (is_shown h T b) (subst (λ i. is_shown h T i ≡ false) at d) b_shown)
          | inr other ↦ stored-set_other now a b value other ∙ links.hidden a a_lt d
        ];
        shown = λ a a_lt s. elim (cases_eq a b) [
          | inl at ↦ inl
              (subst (λ i. Beyond h V i (beside_side (set now b value) a)) (sym at)
              (subst (Beyond h V b) (sym (put a at)) after))
          | inr other ↦
              let same = stored-set_other now a b value other in
              elim (links.shown a a_lt s) [
                | inl right ↦ inl (subst (Beyond h V a) (sym same) right)
                | inr kept ↦ inr (
                  same ∙ kept.0,
                  λ e before e_lt e_outer q. elim before [
                    | inl early ↦ kept.1 e early e_lt e_outer q
                    | inr at ↦ other (same_Some a b (sym q ∙ ap (expected h) at ∙ told))
                  ],
                )
              ]
        ];
      }

  written : (done : ℕ → Type 0) (n o : ℕ) (told value : Option ℕ) (now : List (Option ℕ))
      → CollapseLinks h T k done old now → n < 3 * face_count h → IsOuter h k n
      → across h n ≡ Some o → told ≡ expected h n → value ≡ expected h o
      → CollapseLinks h T k (λ e. done e ⊎ (e ≡ n)) old (put_beside now told value)
  written done n o None value now links l outer over told is =
      none-written done n now links (sym told)
  written done n o (Some b) value now links l outer over told is =
      some-written done n b o value now links l outer over (sym told) is

  fewer-done : (done less : ℕ → Type 0) (now : List (Option ℕ)) → CollapseLinks h T k done old now
      → ((e : ℕ) → less e → IsOuter h k e → done e) → CollapseLinks h T k less old now
  fewer-done done less now links among = record {
    sides = links.sides;
    own = links.own;
    hidden = links.hidden;
    shown = λ a l s. elim (links.shown a l s) [
      | inl right ↦ inl right
      | inr kept ↦ inr (kept.0, λ e low e_lt outer. kept.1 e (among e low outer) e_lt outer)
    ];
  }

  -- what is told of a side of record k is a side of the mesh
  told-below : (n : ℕ) (r : Option Side) → n < 3 * face_count h → record_of h n ≡ Some k
      → number_of r ≡ expected h n → (most : ℕ) → 3 * face_count h ≤ most
      → IfSome r (λ s. s.0 < most)
  told-below n None l own is most few = tt
  told-below n (Some s) l own is most few =
      let low = reaches-lt h may.tree may.once T s.0 (may.standing n l own).reaches (sym is) in
      omega arith

  -- one more face of record k
  module _ (f : ℕ) (l : f < face_count h) (own : revealed_by h f ≡ Some k)
      (now : List (Option ℕ)) (links : LinkedBelow h T k f old now) where
    first_lt : next (inner_of h k f) < 3 * face_count h
    first_lt = let at = first-face h k f own in omega (arith, at)

    second_lt : next (next (inner_of h k f)) < 3 * face_count h
    second_lt = let at = second-face h k f own in omega (arith, at)

    first_told : beside_side now (next (inner_of h k f)) ≡ expected h (next (inner_of h k f))
    first_told = links.own (next (inner_of h k f)) first_lt (first-outer h k f own).0

    second_told : beside_side now (next (next (inner_of h k f)))
        ≡ expected h (next (next (inner_of h k f)))
    second_told =
        links.own (next (next (inner_of h k f))) second_lt (second-outer h k f own).0

    pub first-below : (r : Option Side) → number_of r ≡ beside_side now (next (inner_of h k f))
        → (most : ℕ) → 3 * face_count h ≤ most → IfSome r (λ s. s.0 < most)
    first-below r reads =
        told-below (next (inner_of h k f)) r first_lt (first-outer h k f own).0
        (reads ∙ first_told)

    pub second-below : (r : Option Side)
        → number_of r ≡ beside_side now (next (next (inner_of h k f))) → (most : ℕ)
        → 3 * face_count h ≤ most → IfSome r (λ s. s.0 < most)
    second-below r reads =
        told-below (next (next (inner_of h k f))) r second_lt (second-outer h k f own).0
        (reads ∙ second_told)

    pub collapse-face : (a b : Option ℕ) → a ≡ beside_side now (next (inner_of h k f))
        → b ≡ beside_side now (next (next (inner_of h k f)))
        → LinkedBelow h T k (f + 1) old (put_beside (put_beside now a b) b a)
    collapse-face a b a_reads b_reads =
        let first = next (inner_of h k f) in
        let second = next (next (inner_of h k f)) in
        let a_is = a_reads ∙ first_told in
        let b_is = b_reads ∙ second_told in
        let one = written (λ e. e < 3 * f) first second a b now links first_lt
        (first-outer h k f own) (from_first h k f own) a_is b_is in
        let both = written (λ e. (e < 3 * f) ⊎ (e ≡ first)) second first b a
        (put_beside now a b) one second_lt (second-outer h k f own) (from_second h k f own) b_is
        a_is in
        fewer-done (λ e. ((e < 3 * f) ⊎ (e ≡ first)) ⊎ (e ≡ second)) (λ e. e < 3 * (f + 1))
        (put_beside (put_beside now a b) b a) both
        (λ e low outer. elim (cases_lt e (3 * f)) [
          | inl before ↦ inl (inl before)
          | inr at ↦ elim (outer_cases h k f own e (omega arith) outer) [
            | inl is ↦ inl (inr is)
            | inr is ↦ inr is
          ]
        ])

  pub collapse-ends : (f : ℕ) (now : List (Option ℕ)) → LinkedBelow h T k f old now
      → first_face h (k + 1) ≤ f → AreStored h V now
  collapse-ends f now links all = record {
    sides = links.sides;
    shown = λ a l s. elim (links.shown a l s) [
      | inl right ↦ right
      | inr kept ↦
          let before = shown_without-parts h T k a s in
          subst (Beyond h V a) (sym kept.0)
          (collapse-other h may.tree may.once T k may.standing may.older a (beside_side old a)
          (may.was.shown a l before.1) (λ c is own.
          let far = subst (Beyond h T a) is (may.was.shown a l before.1) in
          let c_lt = reaches-lt h may.tree may.once T c far.reaches refl in
          let outer = stands-outer h may.tree may.once T k may.standing may.older a c l c_lt
          before.1 before.0 far
          own in
          kept.1 c (let p = record-corner_of h k c c_lt own in omega (arith, p.1)) c_lt outer.0
          outer.1))
    ];
    hidden = λ a l d. elim (cases_Bool (is_shown h T a)) [
      | inr before ↦ links.hidden a l before
      | inl before ↦
          elim (option_cases (record_of h a)) [
            | inl base ↦
                absurd (both_ways (is_shown h V a) d
                (shown_without h T k a (λ own. none-some k (sym base ∙ own)) before))
            | inr (j, own) ↦
                elim (cases_eq j k) [
                  | inl is ↦ links.own a l (own ∙ ap Some is)
                  | inr other ↦
                      absurd (both_ways (is_shown h V a) d
                      (shown_without h T k a (λ own'. other (same_Some j k (sym own ∙ own')))
                      before))
                ]
          ]
    ];
  }
