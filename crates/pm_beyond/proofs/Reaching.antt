-- Walks through faces that aren't shown: they can be joined, walked back, and end at one side at
-- most.
use Rattle.std.proofs.Common.{◌≡◌, ℕ, ◌*◌, ◌<◌, Bool, true, false, Option, Some, None, inl, inr}
use Rattle.std.proofs.lemmas.Grind.{common_steps}
use Rattle.std.proofs.Common.{refl, sym, ap, ◌∙◌, subst, arith}
use Rattle.std.proofs.lemmas.Bool.{cases_Bool, both_ways, false_from_ne_true}
use Rattle.std.proofs.lemmas.Option.{none-some, same_Some}
use Rattle.pm_base.specs.Sides.{face_of, NoSideTwice}
use Rattle.pm_forest.specs.Forest.{Hierarchy}
use Rattle.pm_forest.specs.Fronts.{IsFront}
use Rattle.pm_forest.specs.Faces.{face_count, IsForest}
use Rattle.pm_forest.specs.Kept.{is_kept, is_shown}
use Rattle.pm_forest.proofs.Shown.{kept-shown, shown_record, shown_same, hidden-parts}
use Rattle.pm_beyond.specs.Walks.{leaf_net, leaf_twin, across, Reaches, here, past, StopsAt, Beyond}
use Rattle.pm_beyond.proofs.Twins.{twin-is, twin_back}
use Rattle.pm_beyond.proofs.Across.{across-face, across_back, across-lt}

-- A side across the same face is shown where the face is.
pub shown_across : (h : Hierarchy) (T : ℕ → Bool) (c o : ℕ) → across h c ≡ Some o
    → is_shown h T o ≡ is_shown h T c
shown_across h T c o x = shown_same h T o c (across-face h c o x)

-- The face of a side is kept where it is shown.
pub kept_at_side : (h : Hierarchy) → IsForest h → (T : ℕ → Bool) → IsFront h T → (c : ℕ)
    → c < 3 * face_count h → is_kept h T (face_of c) ≡ is_shown h T c
kept_at_side h shape T front c l =
    kept-shown h shape T front (face_of c) (omega arith)
    ∙ shown_same h T (3 * face_of c) c (omega arith)

module _ (h : Hierarchy) (shape : IsForest h) (once : NoSideTwice (leaf_net h)) where
  -- A walk goes on across a face that isn't shown.
  pub append : (D : ℕ → Bool) {a c o : ℕ} {r s : Option ℕ} → Reaches h D a r → r ≡ Some c
      → is_shown h D c ≡ false → across h c ≡ Some o → Reaches h D o s → Reaches h D a s
  append D (here t) q d x w = past (t ∙ q) d x w
  append D (past t d' x' v) q d x w = past t d' x' (append D v q d x w)

  -- The side where a walk ends is a side of the mesh.
  pub reaches-lt : (D : ℕ → Bool) {a : ℕ} {r : Option ℕ} (b : ℕ) → Reaches h D a r → r ≡ Some b
      → b < 3 * face_count h
  reaches-lt D b (here {a = a} t) q = (twin-is h a b (t ∙ q)).2
  reaches-lt D b (past t d x w) q = reaches-lt D b w q

  -- A walk can be walked back.
  pub back : (D : ℕ → Bool) {a : ℕ} {r : Option ℕ} (b : ℕ) → a < 3 * face_count h → Reaches h D a r
      → r ≡ Some b → Reaches h D b (Some a)
  back D b l (here {a = a} t) q = here (twin_back h shape once a b l (t ∙ q))
  back D b l (past {a = a} {c = c} {o = o} t d x w) q =
      let c_lt = (twin-is h a c t).2 in
      let o_lt = across-lt h c o c_lt x in
      append D (back D b o_lt w q) refl (shown_across h D c o x ∙ d) (across_back h c o x)
      (here (twin_back h shape once a c l t))

  pub stops_at : (D : ℕ → Bool) (r : Option ℕ) (c : ℕ) → StopsAt h D r → r ≡ Some c
      → is_shown h D c ≡ true
  stops_at D None c s q = absurd (none-some c q)
  stops_at D (Some b) c s q = subst (λ e. is_shown h D e ≡ true) (same_Some b c q) s

  same_here : (D : ℕ → Bool) (a : ℕ) (r : Option ℕ) → leaf_twin h a ≡ r → StopsAt h D r
      → {a' : ℕ} {r' : Option ℕ} → Reaches h D a' r' → a' ≡ a → StopsAt h D r' → r ≡ r'
  same_here D a r t s (here t') q s' = sym t ∙ ap (leaf_twin h) (sym q) ∙ t'
  same_here D a r t s (past {c = c} t' d' x' v) q s' =
      absurd (both_ways _ d' (stops_at D r c s (sym t ∙ ap (leaf_twin h) (sym q) ∙ t')))

  pub same_past : (D : ℕ → Bool) (a c o : ℕ) → leaf_twin h a ≡ Some c → is_shown h D c ≡ false
      → across h c ≡ Some o → {a' : ℕ} {r' : Option ℕ} → Reaches h D a' r' → a' ≡ a → StopsAt h D r'
      → {R : Type 0} → (Reaches h D o r' → R) → R
  same_past D a c o t d x (here {r = r'} t') q s' go =
      absurd (both_ways _ d (stops_at D r' c s' (sym t' ∙ ap (leaf_twin h) q ∙ t)))
  same_past D a c o t d x (past {c = c'} {o = o'} {r = r'} t' d' x' v) q s' go =
      grind (arith, common_steps, same_Some)

  -- One side, or none, stands beyond a side,
  pub same_end : (D : ℕ → Bool) {a : ℕ} {r : Option ℕ} (a' : ℕ) (r' : Option ℕ) → Reaches h D a r
      → a ≡ a' → StopsAt h D r → Reaches h D a' r' → StopsAt h D r' → r ≡ r'
  same_end D a' r' (here {a = a} {r = r} t) q s w s' = same_here D a r t s w (sym q) s'
  same_end D a' r' (past {a = a} {c = c} {o = o} t d x v) q s w s' =
      same_past D a c o t d x w (sym q) s' (λ u. same_end D o r' v refl s u s')

  pub Beyond-unique : (D : ℕ → Bool) (a : ℕ) (r r' : Option ℕ) → Beyond h D a r → Beyond h D a r'
      → r ≡ r'
  Beyond-unique D a r r' b b' = same_end D a r' b.reaches refl b.stops b'.reaches b'.stops

  -- and one side stands beyond no two.
  pub Beyond-injective : (D : ℕ → Bool) (a b c : ℕ) → a < 3 * face_count h → b < 3 * face_count h
      → is_shown h D a ≡ true → is_shown h D b ≡ true → Beyond h D a (Some c)
      → Beyond h D b (Some c) → a ≡ b
  Beyond-injective D a b c l m s t v w = grind (arith, common_steps, Beyond-unique, back, same_Some)

  -- Walks in two sets of records

  -- The last face on a walk that E shows, if any: from across it the walk leads on in E.
  pub data LastShown (D E : ℕ → Bool) (a c : ℕ) : Type 0 where
    none_before : Reaches h E a (Some c) → LastShown D E a c
    some_before : (b c' : ℕ) → Reaches h D a (Some c') → is_shown h D c' ≡ false
        → across h c' ≡ Some b → is_shown h E b ≡ true → Reaches h E b (Some c) → LastShown D E a c

  pub last_shown : (D E : ℕ → Bool) {a : ℕ} {r : Option ℕ} (c : ℕ) → Reaches h D a r → r ≡ Some c
      → LastShown D E a c
  last_shown D E c (here t) q = none_before (here (t ∙ q))
  last_shown D E c (past {a = a} {c = f} {o = o} t d x w) q =
      elim (last_shown D E c w q) [
        | none_before v ↦
            elim (cases_Bool (is_shown h E f)) [
              | inl s ↦ some_before o f (here t) d x (shown_across h E f o x ∙ s) v
              | inr s ↦ none_before (past t s x v)
            ]
        | some_before b c' v d' x' s u ↦ some_before b c' (past t d x v) d' x' s u
      ]

  -- The first face on a walk that E shows, if any.
  pub data FirstShown (D E : ℕ → Bool) (a : ℕ) (r : Option ℕ) : Type 0 where
    none_between : Reaches h E a r → FirstShown D E a r
    some_between : (c : ℕ) → Reaches h D a (Some c) → is_shown h D c ≡ false → is_shown h E c ≡ true
        → Reaches h E a (Some c) → FirstShown D E a r

  pub first_shown : (D E : ℕ → Bool) {a : ℕ} {r : Option ℕ} → Reaches h D a r → FirstShown D E a r
  first_shown D E (here t) = none_between (here t)
  first_shown D E (past {c = f} t d x w) =
      elim (cases_Bool (is_shown h E f)) [
        | inl s ↦ some_between f (here t) d s (here t)
        | inr s ↦
            elim (first_shown D E w) [
              | none_between v ↦ none_between (past t s x v)
              | some_between c v d' s' u ↦ some_between c (past t d x v) d' s' (past t s x u)
            ]
      ]

-- With fewer records split a walk goes through the same faces.
pub fewer : (h : Hierarchy) (D E : ℕ → Bool) → ((j : ℕ) → E j ≡ true → D j ≡ true)
    → {a : ℕ} {r : Option ℕ} → Reaches h D a r → Reaches h E a r
fewer h D E less (here t) = here t
fewer h D E less (past {c = c} t d x w) =
    let p = hidden-parts h D c d in
    past t (shown_record h E c p.0 p.1 ∙ false_from_ne_true _ (λ e. both_ways _ p.2 (less p.0 e))) x
    (fewer h D E less w)
