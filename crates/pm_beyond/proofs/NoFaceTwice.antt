-- No walk meets a face twice.
use Rattle.std.proofs.Common.{◌≡◌, ◌≢◌, ℕ, suc, ◌*◌, ◌<◌, ◌≤◌, eqb, Bool, true, false, Option, Some}
use Rattle.std.proofs.lemmas.Grind.{common_steps}
use Rattle.std.proofs.Common.{length, inl, inr, refl, sym, ap, ◌∙◌, subst, arith}
use Rattle.std.specs.List.{IsDistinct, list_any}
use Rattle.std.proofs.lemmas.Bool.{eqb-true, false≢true, both_ways, or_cases}
use Rattle.std.proofs.lemmas.Option.{same_Some}
use Rattle.std.proofs.lemmas.Map.Steps.{length-le_from_distinct_below}
use Rattle.pm_base.specs.Sides.{face_of, NoSideTwice}
use Rattle.pm_forest.specs.Forest.{Hierarchy}
use Rattle.pm_forest.specs.Fronts.{IsFront}
use Rattle.pm_forest.specs.Faces.{face_count, IsForest}
use Rattle.pm_forest.specs.Kept.{is_shown}
use Rattle.pm_forest.proofs.Shown.{shown-apart}
use Rattle.pm_forest.proofs.OneToOne.{distinct_more, distinct_nil}
use Rattle.pm_beyond.specs.Walks.{leaf_net, leaf_twin, across, Reaches, here, past, StopsAt}
use Rattle.pm_beyond.specs.Walks.{crossed}
use Rattle.pm_beyond.proofs.Twins.{twin-is}
use Rattle.pm_beyond.proofs.Across.{across_back, across-is_outer, two_outer}
use Rattle.pm_beyond.proofs.Reaching.{stops_at, back, Beyond-unique}
use Rattle.pm_beyond.proofs.Carried.{ends-carried}

module _ (h : Hierarchy) (shape : IsForest h) (once : NoSideTwice (leaf_net h)) (T : ℕ → Bool) where
  -- Two walks from one side are equally long.
  none_crossed : (a : ℕ) (r : Option ℕ) → leaf_twin h a ≡ r → StopsAt h T r
      → {a' : ℕ} {r' : Option ℕ} → (w : Reaches h T a' r') → a' ≡ a → length (crossed w) ≡ 0
  none_crossed a r t s (here t') q = refl
  none_crossed a r t s (past {c = c} t' d' x' v) q =
      absurd (both_ways _ d'
      (stops_at h shape once T r c s (sym t ∙ ap (leaf_twin h) (sym q) ∙ t')))

  one_crossed : (a c o : ℕ) → leaf_twin h a ≡ Some c → is_shown h T c ≡ false → across h c ≡ Some o
      → {a' : ℕ} {r' : Option ℕ} → (w : Reaches h T a' r') → a' ≡ a → StopsAt h T r'
      → (o' : ℕ) × (v : Reaches h T o' r') × (o' ≡ o)
      × (length (crossed w) ≡ suc (length (crossed v)))
  one_crossed a c o t d x (here {r = r'} t') q s' =
      absurd (both_ways _ d (stops_at h shape once T r' c s' (sym t' ∙ ap (leaf_twin h) q ∙ t)))
  one_crossed a c o t d x (past {c = c'} {o = o'} {r = r'} t' d' x' v) q s' =
      let same_c : c' ≡ c = same_Some c' c (sym t' ∙ ap (leaf_twin h) q ∙ t) in
      (o', v, same_Some o' o (sym x' ∙ ap (across h) same_c ∙ x), refl)

  same_length : {a : ℕ} {r : Option ℕ} (w : Reaches h T a r) → StopsAt h T r
      → {a' : ℕ} {r' : Option ℕ} → (w' : Reaches h T a' r') → a' ≡ a → StopsAt h T r'
      → length (crossed w') ≡ length (crossed w)
  same_length (here {a = a} {r = r} t) s w' q s' = none_crossed a r t s w' q
  same_length (past {a = a} {c = c} {o = o} t d x w) s w' q s' =
      let (o', v, is, l) = one_crossed a c o t d x w' q s' in
      l ∙ ap suc (same_length w s v is s')

  -- Where a walk meets a face, it goes on from there, for fewer faces.
  meets : {a : ℕ} {r : Option ℕ} (g : ℕ) (w : Reaches h T a r) → list_any (eqb g) (crossed w) ≡ true
      → (c : ℕ) × (o : ℕ) × (face_of c ≡ g) × (across h c ≡ Some o) × (v : Reaches h T o r)
      × (length (crossed v) < length (crossed w))
  meets g (here t) m = absurd (false≢true m)
  meets g (past {c = c} {o = o} t d x w) m =
      elim (or_cases (eqb g (face_of c)) (list_any (eqb g) (crossed w)) m) [
        | inl e ↦ (c, o, sym (eqb-true g (face_of c) e), x, w, omega arith)
        | inr e ↦ (let (c', o', f, y, v, l) = meets g w e in (c', o', f, y, v, omega arith))
      ]

  module _ (a : ℕ) (a_lt : a < 3 * face_count h) (a_shown : is_shown h T a ≡ true) where
    distinct_from : {x : ℕ} {r : Option ℕ} (w : Reaches h T x r)
        → ((s : Option ℕ) → Reaches h T x s → Reaches h T a s) → r ≢ Some a → StopsAt h T r
        → IsDistinct eqb (crossed w)
    distinct_from (here t) go n s = distinct_nil
    distinct_from (past {c = c} {o = o} {r = r} t d x w) go n s =
        distinct_more (face_of c) (crossed w)
        (distinct_from w (λ q v. go q (past t d x v)) n s)
        (λ m.
        let (c', o', f, y, v, l) = meets (face_of c) w m in
        let (k, outer, _) = across-is_outer h c' o' y in
        elim (two_outer h c o c' x k outer f) [
          | inl is ↦ grind (arith, common_steps, same_Some, same_length)
          | inr is ↦
              let same_o : o' ≡ c =
              same_Some o' c (sym y ∙ ap (across h) is ∙ across_back h c o x) in
              let on = subst (λ p. Reaches h T p r) same_o v in
              let home = back h shape once T c a_lt (go (Some c) (here t)) refl in
              n (Beyond-unique h shape once T c r (Some a) (record { reaches = on; stops = s })
              (record { reaches = home; stops = a_shown }))
        ])

pub crossed-lt : (h : Hierarchy) (T : ℕ → Bool) {a : ℕ} {r : Option ℕ} (w : Reaches h T a r) (q : ℕ)
    → list_any (eqb q) (crossed w) ≡ true → q < face_count h
crossed-lt h T (here t) q m = absurd (false≢true m)
crossed-lt h T (past {a = a} {c = c} t d x w) q m =
    elim (or_cases (eqb q (face_of c)) (list_any (eqb q) (crossed w)) m) [
      | inl e ↦ (let is = eqb-true q (face_of c) e in let p = twin-is h a c t in omega arith)
      | inr e ↦ crossed-lt h T w q e
    ]

pub no_face_twice : (h : Hierarchy) → IsForest h → NoSideTwice (leaf_net h) → (T : ℕ → Bool)
    → IsFront h T → (a : ℕ) (r : Option ℕ) → a < 3 * face_count h → is_shown h T a ≡ true
    → (w : Reaches h T a r) → StopsAt h T r → IsDistinct eqb (crossed w)
no_face_twice h shape once T front a r l s w stops =
    grind (arith, common_steps, distinct_from, ends-carried, shown-apart)

pub at_most_all_faces : (h : Hierarchy) → IsForest h → NoSideTwice (leaf_net h) → (T : ℕ → Bool)
    → IsFront h T → (a : ℕ) (r : Option ℕ) → a < 3 * face_count h → is_shown h T a ≡ true
    → (w : Reaches h T a r) → StopsAt h T r → length (crossed w) ≤ face_count h
at_most_all_faces h shape once T front a r l s w stops =
    length-le_from_distinct_below (crossed w) (face_count h)
    (no_face_twice h shape once T front a r l s w stops) (crossed-lt h T w)
