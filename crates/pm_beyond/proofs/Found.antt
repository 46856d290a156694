-- What stands beyond a side of a shown face is found; and the walk told by ancestors is the walk
-- told by records.
use Rattle.std.proofs.Common.{◌≡◌, ◌≢◌, ℕ, zero, suc, ◌*◌, ◌<◌, Bool, true, false, cond, Option}
use Rattle.std.proofs.Common.{Some, None, List, [], ◌∷◌, inl, inr, refl, sym, ap, ◌∙◌, subst, arith}
use Rattle.std.proofs.lemmas.Bool.{cases_Bool, cond-false, both_ways}
use Rattle.std.proofs.lemmas.Option.{none-some, same_Some}
use Rattle.pm_base.specs.Sides.{face_of, next, NoSideTwice}
use Rattle.pm_base.proofs.Search.{option_cases}
use Rattle.pm_forest.specs.Forest.{Hierarchy}
use Rattle.pm_forest.specs.Fronts.{IsFront, ancestor_of}
use Rattle.pm_forest.specs.Faces.{face_count, from_leaf, to_leaf, IsForest}
use Rattle.pm_forest.specs.Kept.{is_kept, is_shown}
use Rattle.pm_forest.proofs.Ends.{inner-joined}
use Rattle.pm_forest.proofs.Shown.{shown_same, hidden-parts, shown-apart}
use Rattle.pm_beyond.specs.Walks.{leaf_net, leaf_twin, IsOuter, across, Reaches, here, past}
use Rattle.pm_beyond.specs.Walks.{crossed, Crosses, IsOfKept, StandsBeyond, StopsAt, Beyond, out_at}
use Rattle.pm_beyond.specs.Walks.{way_out, walk, beyond_of}
use Rattle.pm_beyond.proofs.Twins.{twin-is, twin_back}
use Rattle.pm_beyond.proofs.Across.{across-face, across_back, across-outer, across-differs}
use Rattle.pm_beyond.proofs.Across.{two_outer}
use Rattle.pm_beyond.proofs.Reaching.{kept_at_side, shown_across, reaches-lt}
use Rattle.pm_beyond.proofs.Carried.{across-ends, ends-carried}
use Rattle.pm_beyond.proofs.Steps.{way_out_parts, way_out_lt, walk_zero, walk-none, walk-some}
use Rattle.pm_beyond.proofs.Steps.{walk_ends}

module _ (h : Hierarchy) (shape : IsForest h) (once : NoSideTwice (leaf_net h)) (T : ℕ
    → Bool) (front : IsFront h T) where
  -- The ends of side e have two ancestors.
  abbrev pub Apart : ℕ → Type 0
  Apart e = ancestor_of h T (from_leaf h e) ≢ ancestor_of h T (to_leaf h e)

  twin-apart : (a c : ℕ) → Apart a → leaf_twin h a ≡ Some c → Apart c
  twin-apart a c n t = let p =
      twin-is h a c t in λ z. n (ap (ancestor_of h T) (sym p.1) ∙ sym z ∙ ap (ancestor_of h T) p.0)

  -- A face that isn't shown is never come to by its inner side.
  outer-when_apart : (c : ℕ) → c < 3 * face_count h → is_shown h T c ≡ false → Apart c
      → (k : ℕ) × IsOuter h k c
  outer-when_apart c l d n =
      let p = hidden-parts h T c d in
      let up : ℕ → ℕ = λ g. ancestor_of h T (from_leaf h g) in (
        p.0,
        (
          p.1,
          λ is. n (ap up is ∙ inner-joined h shape T p.0 (face_of c) (omega arith) p.1 p.2
              ∙ ap (λ g. up (next g)) (sym is)),
        ),
      )

  across-apart : (c o : ℕ) → c < 3 * face_count h → is_shown h T c ≡ false → across h c ≡ Some o
      → Apart c → Apart o
  across-apart c o l d x n = let e =
      across-ends h shape T c o l d x in λ z. n (sym e.1 ∙ sym z ∙ e.0)

  -- What stands beyond a side of a shown face is found, so there is a walk from each.

  out-injective : (p q o : ℕ) → p < 3 * face_count h → q < 3 * face_count h → way_out h T p ≡ Some o
      → way_out h T q ≡ Some o → p ≡ q
  out-injective p q o l m e f =
      let a = way_out_parts h T p o e in
      let b = way_out_parts h T q o f in
      let same : a.0 ≡ b.0 =
      same_Some a.0 b.0 (sym (across_back h a.0 o a.3) ∙ across_back h b.0 o b.3) in
      same_Some p q (sym (twin_back h shape once p a.0 l a.1) ∙ ap (leaf_twin h) same
      ∙ twin_back h shape once q b.0 m b.1)

  out-fresh : (a p : ℕ) → is_shown h T a ≡ true → way_out h T p ≡ Some a → ⊥
  out-fresh a p s e = let q =
      way_out_parts h T p a e in both_ways _ q.2 (sym (shown_across h T q.0 a q.3) ∙ s)

  reaches-walk : (n a : ℕ) → Reaches h T a (leaf_twin h (walk (way_out h T) n a))
  reaches-walk zero a = here (ap (leaf_twin h) (sym (walk_zero (way_out h T) a)))
  reaches-walk (suc n) a =
      elim (option_cases (way_out h T a)) [
        | inl e ↦ here (ap (leaf_twin h) (sym (walk-none (way_out h T) n a e)))
        | inr (o, e) ↦
            let p = way_out_parts h T a o e in
            past p.1 p.2 p.3
            (subst (λ x. Reaches h T o (leaf_twin h x)) (sym (walk-some (way_out h T) n a o e))
            (reaches-walk n o))
      ]

  carried-apart : (a c : ℕ) → Apart a → Reaches h T a (Some c) → Apart c
  carried-apart a c n w = let e = ends-carried h shape T c w refl in λ z. n (sym e.1 ∙ sym z ∙ e.0)

  stops_when_out : (a e : ℕ) → Apart a → Reaches h T a (leaf_twin h e) → way_out h T e ≡ None
      → (r : Option ℕ) → leaf_twin h e ≡ r → StopsAt h T r
  unfolding way_out
  stops_when_out a e n w o None t = tt
  stops_when_out a e n w o (Some c) t =
      elim (cases_Bool (is_shown h T c)) [
        | inl s ↦ s
        | inr s ↦
            let c_lt = (twin-is h e c t).2 in
            let v = subst (Reaches h T a) t w in
            let (k, outer) = outer-when_apart c c_lt s (carried-apart a c n v) in
            let (p, x) = across-outer h k c outer in
            let g : cond (is_shown h T c) None (across h c) ≡ None = ap (out_at h T) (sym t) ∙ o in
            absurd (none-some p (sym g ∙ cond-false _ None (across h c) s ∙ x))
      ]

  pub beyond-found : (a : ℕ) → a < 3 * face_count h → is_shown h T a ≡ true
      → Beyond h T a (beyond_of h T a)
  unfolding beyond_of
  beyond-found a l s =
      let n = 3 * face_count h in
      let w = reaches-walk n a in
      let ends = walk_ends (way_out h T) n a l (λ p o _. way_out_lt h T p o)
      (λ p q o. out-injective p q o) (λ p _. out-fresh a p s) in
      record {
        reaches = w;
        stops =
            stops_when_out a (walk (way_out h T) n a) (shown-apart h shape T front a l s) w ends
            (leaf_twin h (walk (way_out h T) n a)) refl;
      }

  -- The one other side of a dropped face whose ends differ is the other outer side.
  other_outer : (c o p : ℕ) → c < 3 * face_count h → is_shown h T c ≡ false → across h c ≡ Some p
      → face_of o ≡ face_of c → o ≢ c → Apart o → p ≡ o
  other_outer c o p l d x same other far =
      let (k, outer) = outer-when_apart o (omega arith) (shown_same h T o c same ∙ d) far in
      elim (two_outer h c p o x k outer same) [ inl is ↦ absurd (other is) | inr is ↦ sym is ]

  -- The walk told by ancestors is the walk told by records

  pub Crosses-from_walk : {a : ℕ} {r : Option ℕ} → (w : Reaches h T a r) → Apart a
      → Crosses h T a (crossed w) r
  Crosses-from_walk (here t) n = t
  Crosses-from_walk (past {a = a} {c = c} {o = o} t d x w) n =
      let c_lt = (twin-is h a c t).2 in
      let far = across-apart c o c_lt d x (twin-apart a c n t) in (
        c,
        o,
        t,
        refl,
        kept_at_side h shape T front c c_lt
            ∙ d,
        (across-face h c o x, across-differs h c o x, far),
        Crosses-from_walk w far,
      )

  pub walk-from_Crosses : (fs : List ℕ) (a : ℕ) (r : Option ℕ) → Crosses h T a fs r → Apart a
      → Reaches h T a r
  walk-from_Crosses [] a r t n = here t
  walk-from_Crosses (f ∷ fs) a r (c, o, t, is_f, dropped, (same_face, other, far), rest) n =
      let c_lt = (twin-is h a c t).2 in
      let d : is_shown h T c ≡ false =
      sym (kept_at_side h shape T front c c_lt) ∙ ap (is_kept h T) is_f ∙ dropped in
      let (k, outer) = outer-when_apart c c_lt d (twin-apart a c n t) in
      let (p, x) = across-outer h k c outer in
      past t d (x ∙ ap Some (other_outer c o p c_lt d x same_face other far))
      (walk-from_Crosses fs o r rest far)

  kept_at : (r : Option ℕ) → ((b : ℕ) → r ≡ Some b → b < 3 * face_count h) → StopsAt h T r
      → IsOfKept h T r
  kept_at None lt s = tt
  kept_at (Some b) lt s = kept_at_side h shape T front b (lt b refl) ∙ s

  stops_where_kept : (r : Option ℕ) → ((b : ℕ) → r ≡ Some b → b < 3 * face_count h) → IsOfKept h T r
      → StopsAt h T r
  stops_where_kept None lt s = tt
  stops_where_kept (Some b) lt s = sym (kept_at_side h shape T front b (lt b refl)) ∙ s

  pub stands-from_beyond : (a : ℕ) (r : Option ℕ) → Apart a → Beyond h T a r → StandsBeyond h T a r
  stands-from_beyond a r far b = record {
    crossed = crossed b.reaches;
    crosses = Crosses-from_walk b.reaches far;
    kept = kept_at r (λ c q. reaches-lt h shape once T c b.reaches q) b.stops;
  }

  pub beyond-from_stands : (a : ℕ) (r : Option ℕ) → Apart a → StandsBeyond h T a r → Beyond h T a r
  beyond-from_stands a r far s =
      let w = walk-from_Crosses s.crossed a r s.crosses far in
      record {
        reaches = w;
        stops =
            stops_where_kept r (λ c q. reaches-lt h shape once T c w q) s.kept;
      }
