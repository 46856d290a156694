-- Flags from traced tables.
use Rattle.std.proofs.Common.{◌≡◌, ℕ, ◌<◌, ◌≤◌, inl, inr, refl, sym, ap, ◌∙◌, subst, List, length}
use Rattle.std.proofs.Common.{Bool, true, false, arith}
use Rattle.std.proofs.lemmas.Grind.{common_steps}
use Rattle.std.proofs.lemmas.Bool.{cases_Bool, cond-true, cond-false, eqb-true, eqb-false, eq-eqb}
use Rattle.std.proofs.lemmas.Bool.{ne_eqb}
use Rattle.pm_base.specs.Sides.{Net, face_of}
use Rattle.pm_turn.specs.Turning.{flag_of, AreMates, clash, flipped_if, Way, stay, over, AreTurns}
use Rattle.pm_turn.specs.Turning.{AreTraced, traced_flag}
use Rattle.pm_turn.proofs.TurnedFaces.{flip_flip}
use Rattle.pm_turn.proofs.TurnedSides.{mates_back}

-- Ways one after the other, and back.
pub way_on : (m : Net) (f g h : ℕ) (p q : Bool) → Way m f g p → Way m g h q
    → Way m f h (flipped_if q p)
way_on m f g h p q w stay = w
way_on m f g h p r w (over {e} {k} {p = q} v a) =
    subst (λ (b : Bool). Way m f (face_of k) b) (flip_flip (clash m e k) q p)
    (over (way_on m f g (face_of e) p q w v) a)

pub clash_back : (m : Net) (e k : ℕ) → clash m k e ≡ clash m e k
clash_back m e k = grind (arith, common_steps, eq-eqb, eqb-false, eqb-true, ne_eqb)

pub flip_none : (b : Bool) → flipped_if b false ≡ b
flip_none true = refl
flip_none false = refl

flip_order : (p q : Bool) → flipped_if p q ≡ flipped_if q p
flip_order p q = grind (arith, common_steps)

pub flip_again : (p : Bool) → flipped_if p (flipped_if true p) ≡ true
flip_again true = refl
flip_again false = refl

pub way_back : (m : Net) (f g : ℕ) (p : Bool) → Way m f g p → Way m g f p
way_back m f g p stay = stay
way_back m f g r (over {e} {k} {p} w a) =
    let step : Way m (face_of k) (face_of e) (clash m e k) =
    subst (λ (b : Bool). Way m (face_of k) (face_of e) b) (flip_none (clash m k e)
    ∙ clash_back m e k) (over stay (mates_back m e k a)) in
    subst (λ (b : Bool). Way m (face_of k) f b) (flip_order p (clash m e k))
    (way_on m (face_of k) (face_of e) f (clash m e k) p step (way_back m f (face_of e) p w))

-- The faces of mates.
pub one_in : (m : Net) (e k : ℕ) → AreMates m e k → face_of e < m.faces
one_in m e k a = omega (arith, a.stands.is_side)

pub other_in : (m : Net) (e k : ℕ) → AreMates m e k → face_of k < m.faces
other_in m e k a = omega (arith, a.same.stands.is_side)

module _ (m : Net) (root : ℕ → ℕ) (parity odd : ℕ → Bool) (t : AreTraced m root parity odd) where
  pub roots_same : (f g : ℕ) (p : Bool) → Way m f g p → root f ≡ root g
  roots_same f g p stay = refl
  roots_same f g r (over {e} {k} {p} w a) = roots_same f (face_of e) p w ∙ t.same e k a

  pub root_in : (f : ℕ) → f < m.faces → root f < m.faces
  root_in f l = let b = t.below f in omega (arith, l, b)

  pub root_root : (f : ℕ) → f < m.faces → root (root f) ≡ root f
  root_root f l = sym (roots_same f (root f) (parity f) (t.way f l))

  pub odd_way : (f : ℕ) → f < m.faces → odd (root f) ≡ true → Way m f f true
  odd_way f l set =
      let out = t.way f l in
      let here = t.twisted f l set in
      let round = way_on m f (root f) (root f) (parity f) true out here in
      subst (λ (b : Bool). Way m f f b) (flip_again (parity f))
      (way_on m f (root f) f (flipped_if true (parity f)) (parity f) round
      (way_back m f (root f) (parity f) out))

module _ (m : Net) (flags : List Bool) (root : ℕ → ℕ) (parity odd : ℕ
    → Bool) (t : AreTraced m root parity odd) (long : length flags ≡ m.faces) (is : (f : ℕ)
    → f < m.faces → flag_of flags f ≡ traced_flag root parity odd f) where
  flag_straight : (f : ℕ) → f < m.faces → odd (root f) ≡ false → flag_of flags f ≡ parity f
  flag_straight f l no_odd = is f l ∙ cond-false _ _ _ no_odd

  flag_odd : (f : ℕ) → f < m.faces → odd (root f) ≡ true → flag_of flags f ≡ false
  flag_odd f l set = is f l ∙ cond-true _ _ _ set

  traced : AreTurns m flags
  traced = record {
    agreeing = record {
      long = long;
      twisted = λ f. odd (root f);
      odd = λ f l set. (odd_way m root parity odd t f l set, flag_odd f l set);
      agree = λ e k a un.
          let un_k : odd (root (face_of k)) ≡ false = ap odd (sym (t.same e k a)) ∙ un in (
            un_k,
            flag_straight (face_of k) (other_in m e k a) un_k ∙ t.straight e k a un
                ∙ ap (flipped_if (clash m e k))
                (sym (flag_straight (face_of e) (one_in m e k a) un)),
          );
    };
    least = root;
    parity = parity;
    way = t.way;
    low = λ f g p l w. subst (λ i. i ≤ g) (sym (roots_same m root parity odd t f g p w))
        (t.below g);
    first = λ f l.
        elim (cases_Bool (odd (root (root f)))) [
          | inl set ↦ flag_odd (root f) (root_in m root parity odd t f l) set
          | inr un ↦ flag_straight (root f) (root_in m root parity odd t f l) un ∙ t.own f l
        ];
  }

pub traced_tables_turn : (m : Net) (flags : List Bool) (root : ℕ → ℕ) (parity odd : ℕ → Bool)
    → AreTraced m root parity odd → length flags ≡ m.faces
    → ((f : ℕ) → f < m.faces → flag_of flags f ≡ traced_flag root parity odd f) → AreTurns m flags
traced_tables_turn m flags root parity odd t long is = traced m flags root parity odd t long is
