-- The elders of the first sides, side by side.
use Rattle.std.proofs.Common.{◌≡◌, ℕ, ◌+◌, ◌<◌, ◌≤◌, inl, inr, refl, sym, ap, ◌∙◌, subst}
use Rattle.std.proofs.lemmas.Grind.{common_steps}
use Rattle.std.proofs.Common.{Bool, true, false, not, arith}
use Rattle.std.proofs.lemmas.Bool.{cases_eq}
use Rattle.std.proofs.lemmas.Bool.{true≢false}
use Rattle.pm_base.specs.Sides.{Net, face_of, side_count}
use Rattle.pm_turn.specs.Turning.{AreMates, clash, flipped_if, Way, stay, over, AreTraced}
use Rattle.pm_turn.specs.Unions.{Elders, Up, top, up, AreJoined, AreElders, put, under, marked}
use Rattle.pm_turn.specs.Unions.{all_own}
use Rattle.pm_turn.proofs.TurnedSides.{mates_back}
use Rattle.pm_turn.proofs.Traced.{way_on, way_back, clash_back, flip_none}
use Rattle.pm_turn.proofs.Joining.{closes, closes_back, put_same, put_other, one_root, root_own}
use Rattle.pm_turn.proofs.Joining.{up_below, one_mate, up_way, elders_under, moved_up}

pub begun : (m : Net) → AreElders m 0 all_own
begun m = record {
  below = λ x. omega arith;
  step = λ x l. stay;
  twisted = λ x l set. absurd (true≢false (sym set));
  joined = λ e k l a. absurd (omega arith);
}

more : (m : Net) (n : ℕ) (t : Elders) → AreElders m n t
    → ((k : ℕ) → AreMates m n k → AreJoined m t n k) → AreElders m (n + 1) t
more m n t s j = record {
  below = s.below;
  step = s.step;
  twisted = s.twisted;
  joined = λ e k l a.
      elim (cases_eq e n) [
        | inl is ↦ subst (λ i. AreJoined m t i k) (sym is) (j k (subst (λ i. AreMates m i k) is a))
        | inr ne ↦ s.joined e k (omega (arith, l, ne)) a
      ];
}

-- A side without a mate.
pub none_more : (m : Net) (n : ℕ) (t : Elders) → AreElders m n t → ((k : ℕ) → AreMates m n k → ⊥)
    → AreElders m (n + 1) t
none_more m n t s none = more m n t s (λ k a. absurd (none k a))

module _ (m : Net) (n k : ℕ) (t : Elders) (s : AreElders m n t) (a : AreMates m n k) where
  to_mate : AreJoined m t n k → (j : ℕ) → AreMates m n j → AreJoined m t n j
  to_mate w j b = subst (AreJoined m t n) (sym (one_mate m n k j a b)) w

  face_in : face_of n < m.faces
  face_in = omega (arith, a.stands.is_side)

  mate_in : face_of k < m.faces
  mate_in = omega (arith, a.same.stands.is_side)

  there : Way m (face_of n) (face_of k) (clash m n k)
  there = subst (λ (b : Bool). Way m (face_of n) (face_of k) b) (flip_none (clash m n k))
      (over stay a)

  -- The mates are in one patch and agree.
  pub agreeing_more : (r : ℕ) (p q : Bool) → Up t (face_of n) r p → Up t (face_of k) r q
      → q ≡ flipped_if (clash m n k) p → AreElders m (n + 1) t
  agreeing_more r p q v w is = more m n t s
      (to_mate (record { root = r; one = p; other = q; one_up = v; other_up = w; agree = λ _. is }))

up_marked : (t : Elders) (r x s : ℕ) (p : Bool) → Up t x s p → Up (marked t r) x s p
up_marked t r x s p (top a) = top a
up_marked t r x s p (up {p = i} k v) = up k (up_marked t r (t.elder x) s i v)

odd_then : (q c p : Bool) → q ≡ not (flipped_if c p) → flipped_if q (flipped_if c p) ≡ true
odd_then q true true e = ap (λ (b : Bool). flipped_if b false) e
odd_then q true false e = ap (λ (b : Bool). flipped_if b true) e
odd_then q false true e = ap (λ (b : Bool). flipped_if b true) e
odd_then q false false e = ap (λ (b : Bool). flipped_if b false) e

module _ (m : Net) (n k : ℕ) (t : Elders) (s : AreElders m n t) (a : AreMates m n k)
    (v-root w-root : ℕ) (p q : Bool) (v : Up t (face_of n) v-root p) (w : Up t (face_of k) w-root q)
  where
    -- From the one patch's face to the other's, over the two mates.
    across : Way m v-root w-root (flipped_if q (flipped_if (clash m n k) p))
    across =
        let a1 = way_back m (face_of n) v-root p
        (up_way m n t s (face_of n) v-root p (face_in m n k t s a) v) in
        let a2 = way_on m v-root (face_of n) (face_of k) p (clash m n k) a1 (there m n k t s a) in
        way_on m v-root (face_of k) w-root (flipped_if (clash m n k) p) q a2
        (up_way m n t s (face_of k) w-root q (mate_in m n k t s a) w)

    across_back : Way m w-root v-root (flipped_if p (flipped_if (clash m n k) q))
    across_back =
        let a1 = way_back m (face_of k) w-root q
        (up_way m n t s (face_of k) w-root q (mate_in m n k t s a) w) in
        let back : Way m (face_of k) (face_of n) (clash m n k) =
        subst (λ (b : Bool). Way m (face_of k) (face_of n) b) (flip_none (clash m k n)
        ∙ clash_back m n k) (over stay (mates_back m n k a)) in
        let a2 = way_on m w-root (face_of k) (face_of n) q (clash m n k) a1 back in
        way_on m w-root (face_of n) v-root (flipped_if (clash m n k) q) p a2
        (up_way m n t s (face_of n) v-root p (face_in m n k t s a) v)

    v-in : v-root < m.faces
    v-in = let b = up_below m n t s (face_of n) v-root p v in let l =
        face_in m n k t s a in omega (arith, b, l)

    w-in : w-root < m.faces
    w-in = let b = up_below m n t s (face_of k) w-root q w in let l =
        mate_in m n k t s a in omega (arith, b, l)

    mate_joined : (u : Elders) → AreJoined m u n k → (j : ℕ) → AreMates m n j → AreJoined m u n j
    mate_joined u x j b = subst (AreJoined m u n) (sym (one_mate m n k j a b)) x

    -- They are in one patch and don't agree.
    pub odd_more : v-root ≡ w-root → q ≡ not (flipped_if (clash m n k) p)
        → AreElders m (n + 1) (marked t v-root)
    odd_more is odd =
        let r : ℕ = v-root in
        let round : Way m r r true = grind (arith, common_steps, across, odd_then) in
        let set : put t.odd r true r ≡ true = put_same t.odd r r true refl in
        more m n (marked t r) (record {
          below = s.below;
          step = s.step;
          twisted = λ x l o.
              elim (cases_eq x r) [
                | inl e ↦ subst (λ i. Way m i i true) (sym e) round
                | inr ne ↦ s.twisted x l (sym (put_other t.odd r x true ne) ∙ o)
              ];
          joined = λ e j l b.
              let w' = s.joined e j l b in
              record {
                root = w'.root;
                one = w'.one;
                other = w'.other;
                one_up = up_marked t r (face_of e) w'.root w'.one w'.one_up;
                other_up = up_marked t r (face_of j) w'.root w'.other w'.other_up;
                agree = λ none.
                    elim (cases_eq w'.root r) [
                      | inl e' ↦ absurd (true≢false (sym (put_same t.odd r w'.root true e') ∙ none))
                      | inr ne ↦ w'.agree (sym (put_other t.odd r w'.root true ne) ∙ none)
                    ];
              };
        }) (mate_joined (marked t r) (record {
          root = r;
          one = p;
          other = q;
          one_up = up_marked t r (face_of n) r p v;
          other_up = subst (λ i. Up (marked t r) (face_of k) i q) (sym is)
              (up_marked t r (face_of k) w-root q w);
          agree = λ none. absurd (true≢false (sym set ∙ none));
        }))

    -- They are in two patches, of which one goes under the other.
    pub under_first : v-root < w-root
        → AreElders m (n + 1) (under t v-root w-root (flipped_if p (flipped_if (clash m n k) q)))
    under_first less =
        let d : Bool = flipped_if p (flipped_if (clash m n k) q) in
        let lo = root_own t (face_of n) v-root p v in
        let ho = root_own t (face_of k) w-root q w in
        let u : Elders = under t v-root w-root d in
        more m n u (elders_under t v-root w-root d less lo ho m n s w-in across_back)
        (mate_joined u (elim (moved_up t v-root w-root d less lo ho (face_of n) v-root p v) [
          | inr (e, _) ↦ absurd (omega (arith, e, less))
          | inl (_, v') ↦
              elim (moved_up t v-root w-root d less lo ho (face_of k) w-root q w) [
                | inl (ne, _) ↦ absurd (ne refl)
                | inr (_, w') ↦ record {
                  root = v-root;
                  one = p;
                  other = flipped_if q d;
                  one_up = v';
                  other_up = w';
                  agree = λ _. closes q p (clash m n k);
                }
              ]
        ]))

    pub under_second : w-root < v-root
        → AreElders m (n + 1) (under t w-root v-root (flipped_if q (flipped_if (clash m n k) p)))
    under_second less =
        let d : Bool = flipped_if q (flipped_if (clash m n k) p) in
        let ho = root_own t (face_of n) v-root p v in
        let lo = root_own t (face_of k) w-root q w in
        let u : Elders = under t w-root v-root d in
        more m n u (elders_under t w-root v-root d less lo ho m n s v-in across)
        (mate_joined u (elim (moved_up t w-root v-root d less lo ho (face_of k) w-root q w) [
          | inr (e, _) ↦ absurd (omega (arith, e, less))
          | inl (_, w') ↦
              elim (moved_up t w-root v-root d less lo ho (face_of n) v-root p v) [
                | inl (ne, _) ↦ absurd (ne refl)
                | inr (_, v') ↦ record {
                  root = w-root;
                  one = flipped_if p d;
                  other = q;
                  one_up = v';
                  other_up = w';
                  agree = λ _. closes_back q p (clash m n k);
                }
              ]
        ]))

-- At the end the ways up are tables that were traced.
pub elders_traced : (m : Net) (t : Elders) (root : ℕ → ℕ) (parity : ℕ → Bool)
    → AreElders m (side_count m) t → ((f : ℕ) → f < m.faces → Up t f (root f) (parity f))
    → ((f : ℕ) → root f ≤ f) → AreTraced m root parity t.odd
elders_traced m t root parity s ups below = record {
  way = λ f l. up_way m (side_count m) t s f (root f) (parity f) l (ups f l);
  below = below;
  own = λ f l.
      let r : ℕ = root f in
      let b = below f in
      let rl : r < m.faces = omega (arith, b, l) in
      (one_root t r (root r) r (parity r) false (ups r rl)
      (top (root_own t f r (parity f) (ups f l)))).1;
  same = λ e k a.
      let j = s.joined e k a.stands.is_side a in
      (one_root t (face_of e) (root (face_of e)) j.root (parity (face_of e)) j.one
      (ups (face_of e) (omega (arith, a.stands.is_side))) j.one_up).0
      ∙ sym (one_root t (face_of k) (root (face_of k)) j.root (parity (face_of k)) j.other
      (ups (face_of k) (omega (arith, a.same.stands.is_side))) j.other_up).0;
  twisted = λ f l set. let b = below f in s.twisted (root f) (omega (arith, b, l)) set;
  straight = λ e k a none.
      let j = s.joined e k a.stands.is_side a in
      let one = one_root t (face_of e) (root (face_of e)) j.root (parity (face_of e)) j.one
      (ups (face_of e) (omega (arith, a.stands.is_side))) j.one_up in
      let other = one_root t (face_of k) (root (face_of k)) j.root (parity (face_of k)) j.other
      (ups (face_of k) (omega (arith, a.same.stands.is_side))) j.other_up in
      other.1 ∙ j.agree (ap t.odd (sym one.0) ∙ none) ∙ ap (flipped_if (clash m e k)) (sym one.1);
}
