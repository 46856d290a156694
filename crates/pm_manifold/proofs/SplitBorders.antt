-- What a legal split of a firm hierarchy does to the number of border sides.
use Rattle.std.proofs.Common.{◌≡◌, ◌≢◌, ℕ, ◌*◌, ◌<◌, eqb, Bool, true, false, ◌&&◌, not, cond}
use Rattle.std.proofs.lemmas.Grind.{common_steps}
use Rattle.std.proofs.Common.{Option, Some, None, inl, inr, refl, sym, ap, ◌∙◌, subst, arith}
use Rattle.std.specs.Prelude.{is_some, option_and_then, unwrap_or}
use Rattle.std.proofs.lemmas.Bool.{cases_Bool, both_ways, and_parts, and_from, eqb-true, eq-eqb}
use Rattle.std.proofs.lemmas.Bool.{ne_eqb, cond-true, cond-false, not-true, not_from_false}
use Rattle.std.proofs.lemmas.Bool.{false_from_ne_true}
use Rattle.std.proofs.lemmas.Option.{none-some, same_Some}
use Rattle.pm_base.specs.Counts.{count}
use Rattle.pm_base.specs.Sides.{face_of, find_below}
use Rattle.pm_base.proofs.Search.{find_below-some, find_below-has, option_cases}
use Rattle.pm_forest.specs.Forest.{Hierarchy, record_at, record_count}
use Rattle.pm_forest.specs.Fronts.{IsFront, with}
use Rattle.pm_forest.specs.Faces.{face_count, revealed_by, record_of, inner_of, IsForest}
use Rattle.pm_forest.specs.Kept.{is_shown}
use Rattle.pm_forest.proofs.OneStep.{with-cases, with-same}
use Rattle.pm_forest.proofs.Shown.{shown_record, shown_with, shown_base, shown-parts}
use Rattle.pm_forest.proofs.Sides.{inner-face}
use Rattle.pm_beyond.specs.Walks.{IsInner, IsOuter, across, Beyond, beyond_of, expected, mate_of}
use Rattle.pm_beyond.specs.Valid.{IsValid}
use Rattle.pm_beyond.specs.Moves.{is_at, IsClosed, MaySplit}
use Rattle.pm_beyond.proofs.Across.{across-outer, across-is_outer, across_back, across-lt}
use Rattle.pm_beyond.proofs.Across.{two_outer}
use Rattle.pm_beyond.proofs.Outer.{is_at-parts, is_at-from}
use Rattle.pm_beyond.proofs.Reaching.{kept_at_side, Beyond-unique, Beyond-injective}
use Rattle.pm_beyond.proofs.Found.{beyond-found}
use Rattle.pm_beyond.proofs.Neighbours.{expected-lt}
use Rattle.pm_beyond.proofs.Standing.{forest_of, closed-front}
use Rattle.pm_beyond.proofs.Closed.{split-closed, four_faces}
use Rattle.pm_beyond.proofs.Relinking.{split-new, split-neighbour, split-other}
use Rattle.pm_firm.specs.Firm.{FacesAreHeld}
use Rattle.pm_firm.proofs.Held.{held_side, inner_expected}
use Rattle.pm_manifold.specs.Measure.{is_border_side}
use Rattle.pm_base.proofs.Counted.{both, only, count_matched, count_one, count_none}
use Rattle.pm_manifold.proofs.BorderSides.{border-parts, border-from}

-- the sides at which record k tells of side e, and the inner sides of its faces, as tests
abbrev tells_of : Hierarchy → ℕ → ℕ → ℕ → Bool
tells_of h k e o =
    (is_at k (record_of h o) && not (eqb o (inner_of h k (face_of o)))) && is_at e (expected h o)

abbrev pub is_inner : Hierarchy → ℕ → ℕ → Bool
is_inner h k e = is_at k (record_of h e) && eqb e (inner_of h k (face_of e))

module _ (h : Hierarchy) (valid : IsValid h) (T : ℕ → Bool) (closed : IsClosed h T) (k : ℕ)
    (l : k < record_count h) (may : MaySplit h T k) (held : FacesAreHeld h k) where
  abbrev split_set : ℕ → Bool
  split_set = with T k

  abbrev tree : IsForest h
  tree = forest_of h valid

  front : IsFront h T
  front = closed-front h T closed

  split_front : IsFront h (with T k)
  split_front = closed-front h (with T k) (split-closed h valid T closed k l may)

  record Teller (e o : ℕ) : Type 0 where
    low : o < 3 * face_count h
    outer : IsOuter h k o
    tells : expected h o ≡ Some e

  tells-parts : (e o : ℕ) → o < 3 * face_count h → tells_of h k e o ≡ true → Teller e o
  tells-parts e o low t = grind (arith, common_steps, and_parts, eq-eqb, is_at-parts, not-true)

  tells-from : (e o : ℕ) → Teller e o → tells_of h k e o ≡ true
  tells-from e o t = grind (arith, common_steps, and_from, is_at-from, ne_eqb, not_from_false)

  teller : ℕ → Option ℕ
  teller e = find_below (tells_of h k e) (3 * face_count h)

  teller-parts : (e o : ℕ) → teller e ≡ Some o → Teller e o
  unfolding teller
  teller-parts e o is = let p = find_below-some (tells_of h k e) (3 * face_count h) o is in
      tells-parts e o p.1 p.0

  no_teller : (e o : ℕ) → teller e ≡ None → Teller e o → ⊥
  unfolding teller
  no_teller e o is t = let r =
      find_below-has (tells_of h k e) (3 * face_count h) o t.low (tells-from e o t) in
      none-some r.0 (sym is ∙ r.1)

  own_shown : (o : ℕ) → record_of h o ≡ Some k → is_shown h split_set o ≡ true
  own_shown o is = shown_record h split_set o k is ∙ with-same T k

  -- only one side of the record tells of a side
  one_teller : (e o p : ℕ) → Teller e o → Teller e p → o ≡ p
  one_teller e o p a b =
      Beyond-injective h tree valid.no_side_twice split_set o p e a.low b.low
      (own_shown o a.outer.0) (own_shown p b.outer.0)
      (subst (Beyond h split_set o) a.tells (split-new h valid T k closed l may o a.low a.outer.0))
      (subst (Beyond h split_set p) b.tells (split-new h valid T k closed l may p b.low b.outer.0))

  -- A border side of before goes on, or the other outer side of the face that it meets is one now.
  moved_on : ℕ → ℕ
  moved_on e = unwrap_or (option_and_then (λ o. across h o) (teller e)) e

  moved_back : ℕ → ℕ
  moved_back e =
      cond (is_at k (record_of h e)) (unwrap_or (option_and_then (expected h) (across h e)) e) e

  moved_on-none : (e : ℕ) → teller e ≡ None → moved_on e ≡ e
  unfolding moved_on
  moved_on-none e is = rw is refl

  moved_on-some : (e o p : ℕ) → teller e ≡ Some o → across h o ≡ Some p → moved_on e ≡ p
  unfolding moved_on
  moved_on-some e o p is x = rw (is, x) refl

  moved_back-old : (e : ℕ) → record_of h e ≢ Some k → moved_back e ≡ e
  unfolding moved_back
  moved_back-old e ne = grind (arith, common_steps, cond-false, is_at-parts)

  moved_back-new : (e o b : ℕ) → record_of h e ≡ Some k → across h e ≡ Some o
      → expected h o ≡ Some b → moved_back e ≡ b
  unfolding moved_back
  moved_back-new e o b r x is = grind (arith, common_steps, cond-true, is_at-from)

  not_own : (e : ℕ) → is_shown h T e ≡ true → record_of h e ≢ Some k
  not_own e s r = both_ways (T k) may.unsplit (sym (shown_record h T e k r) ∙ s)

  was_shown : (e : ℕ) → is_shown h (with T k) e ≡ true → record_of h e ≢ Some k
      → is_shown h T e ≡ true
  was_shown e s ne = grind (arith, common_steps, shown-parts, shown_base, shown_record, with-cases)

  not_inner : (e : ℕ) → (IsInner h k e → ⊥) → not (is_inner h k e) ≡ true
  not_inner e never = grind (arith, common_steps, and_parts, eqb-true, is_at-parts, not_from_false)

  inner_test : (e : ℕ) → not (is_inner h k e) ≡ true → IsInner h k e → ⊥
  inner_test e t inner = grind (arith, common_steps, and_from, eq-eqb, is_at-from, not-true)

  abbrev border_before : ℕ → Bool
  border_before e = is_border_side h T e

  abbrev border_now : ℕ → Bool
  border_now e = is_border_side h (with T k) e

  moves_on : (e : ℕ) → e < 3 * face_count h → border_before e ≡ true
      → (moved_on e < 3 * face_count h) × (only border_now (is_inner h k) (moved_on e) ≡ true)
      × (moved_back (moved_on e) ≡ e)
  moves_on e le b =
      let (s, alone) = border-parts h valid T front e le b in
      let own = not_own e s in
      elim (option_cases (teller e)) [
        | inl none ↦
            let is = moved_on-none e none in
            let far = split-other h valid T k closed l may e None le s alone
            (λ o ol outer x. no_teller e o none (record { low = ol; outer = outer; tells = x }))
            in
            let now = and_from (border_now e) (not (is_inner h k e))
            (border-from h valid split_set split_front e le (shown_with h T k e s) far)
            (not_inner e (λ inner. own inner.0)) in
            rw is (le, now, moved_back-old e own)
        | inr (o, found) ↦
            let t = teller-parts e o found in
            let (p, x) = across-outer h k o t.outer in
            let is = moved_on-some e o p found x in
            let pl = across-lt h o p t.low x in
            let (j, oo, po) = across-is_outer h o p x in
            let same : j ≡ k = same_Some j k (sym oo.0 ∙ t.outer.0) in
            let rec : record_of h p ≡ Some k = po.0 ∙ ap Some same in
            let four = four_faces h valid T closed k o p e l may t.low t.outer x t.tells in
            let none = Beyond-unique h tree valid.no_side_twice T e (expected h p) None four
            alone in
            let far : Beyond h split_set p None =
            subst (Beyond h split_set p) none (split-new h valid T k closed l may p pl rec) in
            let b1 = border-from h valid split_set split_front p pl (own_shown p rec) far in
            let now = and_from (border_now p) (not (is_inner h k p)) b1
            (not_inner p (λ z. po.1 (z.1 ∙ ap (λ i. inner_of h i (face_of p)) (sym same)))) in
            rw is (pl, now, moved_back-new p o e rec (across_back h o p x) t.tells)
      ]

  moves_back : (e : ℕ) → e < 3 * face_count h → only border_now (is_inner h k) e ≡ true
      → (moved_back e < 3 * face_count h) × (border_before (moved_back e) ≡ true)
      × (moved_on (moved_back e) ≡ e)
  moves_back e le b =
      let parts = and_parts (border_now e) (not (is_inner h k e)) b in
      let (s1, alone) = border-parts h valid split_set split_front e le parts.0 in
      elim (cases_Bool (is_at k (record_of h e))) [
        | inr other ↦
            let own : record_of h e ≢ Some k =
            λ r. both_ways (is_at k (record_of h e)) other (is_at-from k (record_of h e) r) in
            let s = was_shown e s1 own in
            let is = moved_back-old e own in
            let none : teller e ≡ None = elim (option_cases (teller e)) [
              | inl none ↦ none
              | inr (o, found) ↦
                  let t = teller-parts e o found in
                  absurd (none-some o
                  (Beyond-unique h tree valid.no_side_twice split_set e None (Some o) alone
                  (split-neighbour h valid T k closed l may o e t.low t.outer t.tells)))
            ] in
            let found = beyond-found h tree valid.no_side_twice T front e le s in
            let far = split-other h valid T k closed l may e (beyond_of h T e) le s found
            (λ o ol outer x. no_teller e o none (record { low = ol; outer = outer; tells = x }))
            in
            let before : Beyond h T e None = subst (Beyond h T e)
            (Beyond-unique h tree valid.no_side_twice split_set e (beyond_of h T e) None far alone)
            found in
            rw is (le, border-from h valid T front e le s before, moved_on-none e none)
        | inl own ↦
            let rec = is_at-parts k (record_of h e) own in
            let outer : IsOuter h k e = (rec, λ z. inner_test e parts.1 (rec, z)) in
            let none = Beyond-unique h tree valid.no_side_twice split_set e (expected h e) None
            (split-new h valid T k closed l may e le rec) alone in
            let (o, x) = across-outer h k e outer in
            let ol = across-lt h e o le x in
            let (j, eo, oo) = across-is_outer h e o x in
            let same : j ≡ k = same_Some j k (sym eo.0 ∙ rec) in
            let outer_o : IsOuter h k o = subst (λ i. IsOuter h i o) same oo in
            let (c, b', face, outer_c, told) = held_side h k (face_of e) (omega arith) rec held in
            let c_is : c ≡ o = grind (arith, common_steps, none-some, two_outer) in
            let tells : expected h o ≡ Some b' = ap (expected h) (sym c_is) ∙ told in
            let is = moved_back-new e o b' rec x tells in
            let bl = expected-lt h valid.shape k o b' ol outer_o tells in
            let sb : is_shown h T b' ≡ true =
            sym (kept_at_side h tree T front b' bl) ∙ may.present o b' ol outer_o tells in
            let four = four_faces h valid T closed k o e b' l may ol outer_o (across_back h e o x)
            tells in
            let before = border-from h valid T front b' bl sb (subst (Beyond h T b') none four) in
            let t : Teller b' o = record { low = ol; outer = outer_o; tells = tells } in
            let found : teller b' ≡ Some o = elim (option_cases (teller b')) [
              | inl z ↦ absurd (no_teller b' o z t)
              | inr (q, z) ↦ z ∙ ap Some (one_teller b' q o (teller-parts b' q z) t)
            ] in
            rw is (bl, before, moved_on-some b' o e found (across_back h e o x))
      ]

  pub outer_borders : count (λ e. is_border_side h T e) (3 * face_count h)
      ≡ count (only (λ e. is_border_side h (with T k) e) (is_inner h k)) (3 * face_count h)
  outer_borders =
      count_matched border_before (only border_now (is_inner h k)) (3 * face_count h) moved_on
      moved_back moves_on moves_back

  -- The inner sides of the new faces: where there are two faces they meet, and the inner side of a
  -- single one is a border side.
  two_inner : is_some (record_at h k).left ≡ true → is_some (record_at h k).right ≡ true → (f : ℕ)
      → (b : ℕ) × (mate_of h k f ≡ Some b)
  unfolding mate_of
  two_inner a b f = (
    _,
    cond-true (is_some (record_at h k).left && is_some (record_at h k).right) (Some _) None
        (and_from (is_some (record_at h k).left) (is_some (record_at h k).right) a b),
  )

  one_inner : (is_some (record_at h k).left && is_some (record_at h k).right) ≡ false → (f : ℕ)
      → mate_of h k f ≡ None
  unfolding mate_of
  one_inner e f = rw e refl

  inner-parts : (e : ℕ) → e < 3 * face_count h → both border_now (is_inner h k) e ≡ true
      → (record_of h e ≡ Some k) × (e ≡ inner_of h k (face_of e)) × (mate_of h k (face_of e) ≡ None)
  inner-parts e le t =
      let p = and_parts (border_now e) (is_inner h k e) t in
      let q = and_parts (is_at k (record_of h e)) (eqb e (inner_of h k (face_of e))) p.1 in
      let rec = is_at-parts k (record_of h e) q.0 in
      let is = eqb-true e (inner_of h k (face_of e)) q.1 in
      let (s1, alone) = border-parts h valid split_set split_front e le p.0 in
      let fl : face_of e < face_count h = omega arith in (
        rec,
        is,
        sym (inner_expected h k (face_of e) fl rec) ∙ ap (expected h) (sym is)
            ∙ Beyond-unique h tree valid.no_side_twice split_set e (expected h e) None
            (split-new h valid T k closed l may e le rec) alone,
      )

  pub two_faces : is_some (record_at h k).left ≡ true → is_some (record_at h k).right ≡ true
      → count (both (λ e. is_border_side h (with T k) e) (is_inner h k)) (3 * face_count h) ≡ 0
  two_faces a b =
      count_none (both border_now (is_inner h k)) (3 * face_count h)
      (λ e le. false_from_ne_true (both border_now (is_inner h k) e) (λ t.
      let p = inner-parts e le t in
      let (m, is) = two_inner a b (face_of e) in
      none-some m (sym p.2 ∙ is)))

  pub one_face : (f : ℕ) → f < face_count h → revealed_by h f ≡ Some k
      → ((g : ℕ) → g < face_count h → revealed_by h g ≡ Some k → g ≡ f)
      → (is_some (record_at h k).left && is_some (record_at h k).right) ≡ false
      → count (both (λ e. is_border_side h (with T k) e) (is_inner h k)) (3 * face_count h) ≡ 1
  one_face f fl own single alone =
      let i = inner_of h k f in
      let face = inner-face h k f in
      let il : i < 3 * face_count h = omega arith in
      let rec : record_of h i ≡ Some k = ap (λ g. revealed_by h g) face ∙ own in
      let far : Beyond h split_set i None =
      subst (Beyond h split_set i) (inner_expected h k f fl own ∙ one_inner alone f)
      (split-new h valid T k closed l may i il rec) in
      let b1 = border-from h valid split_set split_front i il (own_shown i rec) far in
      count_one (both border_now (is_inner h k)) (3 * face_count h) i il
      (and_from (border_now i) (is_inner h k i) b1
      (and_from (is_at k (record_of h i)) (eqb i (inner_of h k (face_of i)))
      (is_at-from k (record_of h i) rec)
      (eq-eqb i (inner_of h k (face_of i)) (ap (inner_of h k) (sym face)))))
      (λ e le t.
      let p = inner-parts e le t in
      p.1 ∙ ap (inner_of h k) (single (face_of e) (omega arith) p.0))
