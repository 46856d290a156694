-- Joining mates, pair by pair.
use Rattle.std.proofs.Common.{◌≡◌, ◌≢◌, ℕ, ◌<◌, ◌≤◌, ◌⊎◌, inl, inr, refl, sym, ap, ◌∙◌, subst, Bool}
use Rattle.std.proofs.Common.{true, false, ◌||◌, arith}
use Rattle.std.proofs.lemmas.Grind.{common_steps}
use Rattle.std.proofs.lemmas.Bool.{cases_eq, cond-true, cond-false, eq-eqb, ne_eqb, or_parts}
use Rattle.std.proofs.lemmas.Bool.{or_cases}
use Rattle.pm_base.specs.Sides.{Net, face_of}
use Rattle.pm_turn.specs.Turning.{AreMates, clash, flipped_if, Way, stay}
use Rattle.pm_turn.specs.Unions.{Elders, Up, top, up, AreJoined, AreElders, put, under}
use Rattle.pm_turn.proofs.TurnedFaces.{flip_flip}
use Rattle.pm_turn.proofs.Traced.{way_on, way_back, flip_again}

order_three : (p d x : Bool) → flipped_if (flipped_if p d) x ≡ flipped_if (flipped_if p x) d
order_three p d x = grind (arith, common_steps)

pub closes : (q p c : Bool) → flipped_if q (flipped_if p (flipped_if c q)) ≡ flipped_if c p
closes q p c = grind (arith, common_steps)

pub closes_back : (q p c : Bool) → q ≡ flipped_if c (flipped_if p (flipped_if q (flipped_if c p)))
closes_back q p c = grind (arith, common_steps)

pub put_same : {A : Type 0} (f : ℕ → A) (i j : ℕ) (v : A) → j ≡ i → put f i v j ≡ v
put_same f i j v is = cond-true _ _ _ (eq-eqb _ _ is)

pub put_other : {A : Type 0} (f : ℕ → A) (i j : ℕ) (v : A) → j ≢ i → put f i v j ≡ f j
put_other f i j v ne = cond-false _ _ _ (ne_eqb _ _ ne)

-- The way up is one.
pub one_root : (t : Elders) (x r s : ℕ) (p q : Bool) → Up t x r p → Up t x s q → (r ≡ s) × (p ≡ q)
one_root t x r s p q (top a) (top b) = (refl, refl)
one_root t x r s p q (top a) (up n v) = absurd (n a)
one_root t x r s p q (up n v) (top b) = absurd (n b)
one_root t x r s p q (up {p = i} n v) (up {p = j} k w) = let (a, b) =
    one_root t (t.elder x) r s i j v w in (a, ap (λ (c : Bool). flipped_if c (t.parity x)) b)

pub root_own : (t : Elders) (x r : ℕ) (p : Bool) → Up t x r p → t.elder r ≡ r
root_own t x r p (top a) = a
root_own t x r p (up {p = i} n v) = root_own t (t.elder x) r i v

module _ (m : Net) (n : ℕ) (t : Elders) (s : AreElders m n t) where
  pub up_below : (x r : ℕ) (p : Bool) → Up t x r p → r ≤ x
  up_below x r p (top a) = omega arith
  up_below x r p (up {p = i} k v) = let a = up_below (t.elder x) r i v in let b =
      s.below x in omega (arith, a, b)

  pub up_way : (x r : ℕ) (p : Bool) → x < m.faces → Up t x r p → Way m x r p
  up_way x r p l (top a) = stay
  up_way x r p l (up {p = i} k v) =
      let b = s.below x in
      let l' : t.elder x < m.faces = omega (arith, b, l) in
      way_on m x (t.elder x) r (t.parity x) i (s.step x l) (up_way (t.elder x) r i l' v)

-- One patch goes under another.
module _ (t : Elders) (low high : ℕ) (d : Bool) (less : low < high) (lo : t.elder low ≡ low)
    (ho : t.elder high ≡ high) where
  abbrev t' : Elders
  t' = under t low high d

  low_top : Up t' low low false
  low_top = top (put_other t.elder high low low (λ is. absurd (omega (arith, less, is))) ∙ lo)

  pub moved_up : (x r : ℕ) (p : Bool) → Up t x r p → ((r ≢ high) × Up t' x r p)
      ⊎ ((r ≡ high) × Up t' x low (flipped_if p d))
  moved_up x r p (top a) =
      elim (cases_eq x high) [
        | inr ne ↦ inl (ne, top (put_other t.elder high x low ne ∙ a))
        | inl is ↦
            let e : t'.elder x ≡ low = put_same t.elder high x low is in
            let par : t'.parity x ≡ d = put_same t.parity high x d is in
            let v : Up t' (t'.elder x) low false = subst (λ i. Up t' i low false) (sym e) low_top in
            inr (
              is,
              subst (λ (b : Bool). Up t' x low b) par
                  (up (λ i. absurd (omega (arith, less, is, e, i))) v),
            )
      ]
  moved_up x r p (up {p = i} k v) =
      let ne : x ≢ high = λ is. k (ap t.elder is ∙ ho ∙ sym is) in
      let e : t'.elder x ≡ t.elder x = put_other t.elder high x low ne in
      let par : t'.parity x ≡ t.parity x = put_other t.parity high x d ne in
      let k' : t'.elder x ≢ x = λ is. k (sym e ∙ is) in
      elim (moved_up (t.elder x) r i v) [
        | inl (h, w) ↦
            inl (
              h,
              subst (λ (b : Bool). Up t' x r (flipped_if i b)) par
                  (up k' (subst (λ j. Up t' j r i) (sym e) w)),
            )
        | inr (h, w) ↦
            inr (
              h,
              subst (λ (b : Bool). Up t' x low b) (ap (flipped_if (flipped_if i d)) par
                  ∙ order_three i d (t.parity x))
                  (up k' (subst (λ j. Up t' j low (flipped_if i d)) (sym e) w)),
            )
      ]

  -- What was joined stays joined.
  joined_under : (m : Net) (e k : ℕ) → AreJoined m t e k → AreJoined m t' e k
  joined_under m e k j =
      elim (moved_up (face_of e) j.root j.one j.one_up) [
        | inl (h, v) ↦ grind (arith, common_steps, moved_up, or_parts, put_other, put_same)
        | inr (h, v) ↦
            elim (moved_up (face_of k) j.root j.other j.other_up) [
              | inl (h', _) ↦ absurd (h' h)
              | inr (_, w) ↦ record {
                root = low;
                one = flipped_if j.one d;
                other = flipped_if j.other d;
                one_up = v;
                other_up = w;
                agree = λ none.
                    let was = (or_parts (t.odd low) (t.odd high)
                    (sym (put_same t.odd low low (t.odd low || t.odd high) refl) ∙ none)).1 in
                    ap (λ (b : Bool). flipped_if b d) (j.agree (ap t.odd h ∙ was))
                    ∙ sym (flip_flip (clash m e k) j.one d);
              }
            ]
      ]

  pub elders_under : (m : Net) (n : ℕ) → AreElders m n t → high < m.faces → Way m high low d
      → AreElders m n t'
  elders_under m n s l w = record {
    below = λ x.
        elim (cases_eq x high) [
          | inl is ↦ let e : t'.elder x ≡ low =
              put_same t.elder high x low is in omega (arith, e, less, is)
          | inr ne ↦ let e : t'.elder x ≡ t.elder x = put_other t.elder high x low ne in let b =
              s.below x in omega (arith, e, b)
        ];
    step = λ x xl.
        elim (cases_eq x high) [
          | inl is ↦ subst (λ i. Way m i (t'.elder i) (t'.parity i)) (sym is)
              (subst (λ i. Way m high i (t'.parity high))
              (sym (put_same t.elder high high low refl))
              (subst (λ (b : Bool). Way m high low b) (sym (put_same t.parity high high d refl)) w))
          | inr ne ↦ subst (λ i. Way m x i (t'.parity x)) (sym (put_other t.elder high x low ne))
              (subst (λ (b : Bool). Way m x (t.elder x) b) (sym (put_other t.parity high x d ne))
              (s.step x xl))
        ];
    twisted = λ x xl set.
        elim (cases_eq x low) [
          | inr ne ↦ s.twisted x xl (sym (put_other t.odd low x (t.odd low || t.odd high) ne) ∙ set)
          | inl is ↦
              elim (or_cases (t.odd low) (t.odd high)
              (sym (put_same t.odd low x (t.odd low || t.odd high) is) ∙ set)) [
                | inl a ↦ s.twisted x xl (ap t.odd is ∙ a)
                | inr a ↦
                    let out : Way m low high d = way_back m high low d w in
                    let round : Way m low low (flipped_if d (flipped_if true d)) =
                    way_on m low high low (flipped_if true d) d
                    (way_on m low high high d true out (s.twisted high l a)) w in
                    subst (λ i. Way m i i true) (sym is)
                    (subst (λ (b : Bool). Way m low low b) (flip_again d) round)
              ]
        ];
    joined = λ e k el a. joined_under m e k (s.joined e k el a);
  }

-- A side has one mate.
pub one_mate : (m : Net) (e k j : ℕ) → AreMates m e k → AreMates m e j → j ≡ k
one_mate m e k j a b = elim (a.alone j b.same) [ inl is ↦ absurd (b.differ (sym is)) | inr is ↦ is ]
